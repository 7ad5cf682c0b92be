use Rattle.std.proofs.Common.{◌≤◌, drop}
use Rattle.lj_text.specs.inner.ShortNumbers.{AreLiteralsAhead}
use Rattle.lj_text.proofs.lines.literals.literals_within.Given as goal

abbrev pub invariant-loop-spaces : goal.invariant-loop-spaces
invariant-loop-spaces l = AreLiteralsAhead l.max l.fn.literals.items l.window l.literals.items (drop l.start l.window) × (l.start ≤ 65)

abbrev pub decreases-loop-spaces : goal.decreases-loop-spaces
decreases-loop-spaces l = l.spaces
