use Rattle.lj_book.proofs.StepLineLemmas.{given_as, given_then, kept_first}
use Rattle.lj_book.proofs.history.lines.write_literals.Goals as goal

pub returns-in-len1-up : goal.returns-in-len1-up
returns-in-len1-up g c = record {
  given = given_as _ _ _ _ (given_then _ _ _ _ _ c.token.ensures.given c.write_others.ensures.given)
      (kept_first c.args.literals.now c.pivot-item.result c.in-len1-up.len_at_least c.pivot-item.is);
}
