use Rattle.std.proofs.Common.{◌≡◌, ◌≤◌, length}
use Rattle.lj_text.specs.Lines.{hints_of}
use Rattle.lj_text.specs.inner.LineReading.{token_numbers, behind_hints}
use Rattle.lj_text.proofs.lines.hints.read_hints.Given as goal

abbrev pub invariant-loop-token_number : goal.invariant-loop-token_number
invariant-loop-token_number l = (behind_hints l.hints (hints_of l.ended (token_numbers l.rest)) ≡ behind_hints l.fn.hints (hints_of l.ended (token_numbers l.bytes))) × (length l.rest ≤ length l.bytes)

abbrev pub decreases-loop-token_number : goal.decreases-loop-token_number
decreases-loop-token_number l = length l.rest
