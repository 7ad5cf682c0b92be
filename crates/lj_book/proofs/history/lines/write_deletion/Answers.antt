use Rattle.std.proofs.Common.{◌≡◌, ℕ, List, length, sym, ◌∙◌}
use Rattle.lj_text.proofs.WrittenTokens.{deletion_parts}
use Rattle.lj_book.specs.inner.Encoding.{number_in, list_in}
use Rattle.lj_book.proofs.WordLaws.{length-many}
use Rattle.lj_book.proofs.StepLineLemmas.{given_as, given_then, deleted}
use Rattle.lj_book.proofs.history.lines.write_deletion.Goals as goal

pub returns : goal.returns
returns g c =
    let ns : List ℕ = (list_in c.args.encoding.now).0 in
    let count : length ns ≡ c.number-count.result.0 =
    length-many number_in (number_in c.args.encoding.now).0 (number_in c.args.encoding.now).1 ∙ sym c.number-count.ensures.number in
    record {
      given = given_as _ _ _ _
          (given_then _ _ _ _ _ c.begin_line.ensures.given
          (given_then _ _ _ _ _ c.token.ensures.given
          (given_then _ _ _ _ _ c.write_list.ensures.given
          (given_then _ _ _ _ _ c.token-2.ensures.given c.end_line.ensures.given))))
          (deletion_parts c.args.greatest ns ∙ deleted c.args.greatest ns (λ none. c.if-count-eq0.false (sym count ∙ none)));
    }
