use Rattle.std.proofs.Common.{◌≤◌, length}
use Rattle.lj_text.specs.inner.ShortNumbers.{AreLiteralsAhead}
use Rattle.lj_text.proofs.lines.literals.last_literals.Given as goal

abbrev pub invariant-loop-variable : goal.invariant-loop-variable
invariant-loop-variable l = AreLiteralsAhead l.max l.fn.literals.items l.bytes l.literals.items l.rest × (length l.rest ≤ length l.bytes)

abbrev pub decreases-loop-variable : goal.decreases-loop-variable
decreases-loop-variable l = length l.rest
