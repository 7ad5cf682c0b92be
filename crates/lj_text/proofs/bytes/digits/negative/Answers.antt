use Rattle.std.proofs.Common.{arith}
use Rattle.lj_text.proofs.DigitLemmas.{buffer-negative, buffer-negative_beyond}
use Rattle.lj_text.proofs.bytes.digits.negative.Goals as goal

pub returns-then-value-gt-GREATEST : goal.returns-then-value-gt-GREATEST
returns-then-value-gt-GREATEST c =
    let some = c.in-Some.ensures.some in
    buffer-negative_beyond c.args.digits.now some.0 c.in-Some.value some.1 some.2 (omega arith)

pub returns-else-value-gt-GREATEST : goal.returns-else-value-gt-GREATEST
returns-else-value-gt-GREATEST c =
    let some = c.in-Some.ensures.some in
    buffer-negative c.args.digits.now some.0 c.in-Some.value some.1 some.2 (omega arith) (omega arith)
