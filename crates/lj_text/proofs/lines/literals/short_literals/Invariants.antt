use Rattle.std.proofs.Common.{◌≤◌, length}
use Rattle.lj_text.specs.inner.ShortNumbers.{AreLiteralsAhead}
use Rattle.lj_text.proofs.lines.literals.short_literals.Given as goal

abbrev pub invariant-loop-window : goal.invariant-loop-window
invariant-loop-window l = AreLiteralsAhead l.max l.fn.literals.items l.bytes l.literals.items l.rest × (length l.rest ≤ length l.bytes)

abbrev pub decreases-loop-window : goal.decreases-loop-window
decreases-loop-window l = length l.rest
