use Rattle.std.proofs.Common.{◌==◌, ◌∙◌, ap}
use Rattle.std.proofs.Common.{drop}
use Rattle.lj_text.proofs.ShortLemmas.{integer-ahead}
use Rattle.lj_text.proofs.bytes.short_numbers.short_integer.Goals as goal

pub returns-clause-number : goal.returns-clause-number
returns-clause-number c more =
    let first = c.in_ok-negative.ensures.item in
    integer-ahead c.args.bytes.now c.split_at.result.1.now (c.in_ok-negative.field-0.now == 45) c.in_ok-value.value c.in_ok-value.after.now first.3.0 (ap (λ b. b == 45) (first.3.1 0))
    (c.split_at.ensures.back ∙ ap (λ k. drop k c.args.bytes.now) c.from.ensures) more c.in_ok-value.ensures.number
