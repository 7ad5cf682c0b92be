use Rattle.std.proofs.Common.{◌≡◌, take}
use Rattle.lj_clause.specs.LiteralSet.{from_literals, with_negations}
use Rattle.lj_hint.specs.inner.Trail.{Extends}
use Rattle.lj_hint.proofs.assignment.Assignment.insert_negations.Given as goal

abbrev pub invariant-loop-lit : goal.invariant-loop-lit
invariant-loop-lit l = (from_literals l.self ≡ with_negations (from_literals l.initial.self) (take l.lit-index l.lits)) × Extends l.initial.self l.self
