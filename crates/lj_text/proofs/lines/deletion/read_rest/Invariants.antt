use Rattle.std.proofs.Common.{◌≡◌, length}
use Rattle.lj_text.specs.Lines.{numbers_of}
use Rattle.lj_text.specs.inner.LineReading.{token_numbers, behind_numbers}
use Rattle.lj_text.proofs.lines.deletion.read_rest.Given as goal

abbrev pub invariant-loop-token_number : goal.invariant-loop-token_number
invariant-loop-token_number l = (behind_numbers l.numbers (numbers_of l.ended (token_numbers l.rest)) ≡ behind_numbers l.fn.numbers (numbers_of l.ended (token_numbers l.bytes)))

abbrev pub decreases-loop-token_number : goal.decreases-loop-token_number
decreases-loop-token_number l = length l.rest
