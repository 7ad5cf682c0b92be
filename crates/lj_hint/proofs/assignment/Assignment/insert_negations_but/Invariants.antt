use Rattle.std.proofs.Common.{◌≡◌, take}
use Rattle.std.specs.Prelude.{filter, not}
use Rattle.std.specs.Ordering.{eq_by_cmp}
use Rattle.lj_clause.specs.Literal.{lit_cmp}
use Rattle.lj_clause.specs.LiteralSet.{from_literals, with_negations}
use Rattle.lj_hint.specs.inner.Trail.{Extends}
use Rattle.lj_hint.proofs.assignment.Assignment.insert_negations_but.Given as goal

abbrev pub invariant-loop-other : goal.invariant-loop-other
invariant-loop-other l =
    (from_literals l.self ≡ with_negations (from_literals l.initial.self) (filter (λ m. not (eq_by_cmp lit_cmp m l.but)) (take l.other-index l.lits))) × Extends l.initial.self l.self
