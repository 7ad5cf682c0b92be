use Rattle.std.proofs.Common.{◌≡◌, ℕ, ℤ, List, ap, ◌∙◌, length}
use Rattle.std.specs.Prelude.{◌==◌}
use Rattle.lj_book.specs.inner.Encoding.{number_in}
use Rattle.lj_book.specs.inner.Records.{lits_in}
use Rattle.lj_book.proofs.StepLineLemmas.{kept_none}
use Rattle.lj_book.proofs.history.lines.adds_empty.Goals as goal

pub returns : goal.returns
returns c =
    let ls : List ℤ = c.args.lits.now in
    let ws : List ℕ = c.args.encoding.now in
    let kept : List ℤ = lits_in ls (number_in (number_in ws).1).1 in
    let is : c.named.result.0.now ≡ kept =
    c.named.ensures.lits ∙ ap (lits_in ls) (c.number-2.ensures.rest ∙ ap (λ us. (number_in us).1) c.number.ensures.rest) in
    c.is_empty.ensures ∙ ap (λ ys. length ys == 0) is ∙ kept_none kept
