use Rattle.std.proofs.Common.{◌≤◌, length}
use Rattle.lj_text.specs.inner.ShortNumbers.{AreNumbersAhead}
use Rattle.lj_text.proofs.numbers.last_numbers.Given as goal

abbrev pub invariant-loop-number : goal.invariant-loop-number
invariant-loop-number l = AreNumbersAhead l.fn.numbers.items l.bytes l.numbers.items l.rest × (length l.rest ≤ length l.bytes)

abbrev pub decreases-loop-number : goal.decreases-loop-number
decreases-loop-number l = length l.rest
