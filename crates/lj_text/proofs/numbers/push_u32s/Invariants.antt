use Rattle.std.proofs.Common.{◌≤◌, length}
use Rattle.lj_text.specs.inner.ShortNumbers.{AreNumbersAhead}
use Rattle.lj_text.proofs.numbers.push_u32s.Given as goal

abbrev pub invariant-loop-window : goal.invariant-loop-window
invariant-loop-window l = AreNumbersAhead l.fn.numbers.items l.bytes l.numbers.items l.rest × (length l.rest ≤ length l.bytes)

abbrev pub decreases-loop-window : goal.decreases-loop-window
decreases-loop-window l = length l.rest
