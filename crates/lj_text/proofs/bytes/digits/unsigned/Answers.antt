use Rattle.std.proofs.Common.{arith}
use Rattle.lj_text.proofs.DigitLemmas.{buffer-unsigned_beyond}
use Rattle.lj_text.proofs.bytes.digits.unsigned.Goals as goal

pub returns-then-value-gt-GREATEST : goal.returns-then-value-gt-GREATEST
returns-then-value-gt-GREATEST c =
    let some = c.in-Some.ensures.some in
    buffer-unsigned_beyond c.args.digits.now some.0 c.in-Some.value some.1 some.2 (omega arith)
