use Rattle.std.proofs.Common.{length}
use Rattle.lj_text.proofs.DigitLemmas.{IsRead}
use Rattle.lj_text.proofs.bytes.digits.digits_value.Given as goal

abbrev pub invariant-loop-rest : goal.invariant-loop-rest
invariant-loop-rest l = IsRead l.digits l.rest l.value

abbrev pub decreases-loop-rest : goal.decreases-loop-rest
decreases-loop-rest l = length l.rest
