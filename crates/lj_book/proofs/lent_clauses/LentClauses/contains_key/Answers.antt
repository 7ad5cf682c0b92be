use Rattle.std.proofs.Common.{ap, ◌∙◌}
use Rattle.std.specs.FinMap as fin
use Rattle.lj_book.proofs.RangeLaws.{key_placed}
use Rattle.lj_book.proofs.lent_clauses.LentClauses.contains_key.Goals as goal

pub returns : goal.returns
returns c =
    c.contains_key.ensures
    ∙ key_placed c.self.inside.lits.now c.self.inside.ranges.now c.args.number
    ∙ ap (λ p. fin.contains_key p c.args.number) c.self.view_is
