use Rattle.std.proofs.Common.{◌≡◌, filter, length}
use Rattle.std.specs.Prelude.{not, neg_ℤ}
use Rattle.lj_clause.specs.LiteralSet.{holds, from_literals}
use Rattle.lj_clause.specs.Propagation.{rest}
use Rattle.lj_hint.specs.inner.Rest.{rest_seen}
use Rattle.lj_hint.proofs.propagate.rest_of.Given as goal

-- the literals so far are false
abbrev pub invariant-loop-lits : goal.invariant-loop-lits
invariant-loop-lits l =
    rest_seen (filter (λ m. not (holds (from_literals l.assigned) (neg_ℤ m))) l.lits) ≡ rest_seen (rest l.clause (from_literals l.assigned))

abbrev pub decreases-loop-lits : goal.decreases-loop-lits
decreases-loop-lits l = length l.lits
