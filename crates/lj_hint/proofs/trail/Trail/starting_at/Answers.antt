use Rattle.std.proofs.Common.{sym, subst, arith}
use Rattle.lj_hint.specs.inner.Stamps.{AreAssigned}
use Rattle.lj_hint.proofs.TrailLaws.{fresh_propagator}
use Rattle.lj_hint.proofs.trail.Trail.starting_at.Goals as goal

pub invariant_of-result : goal.invariant_of-result
invariant_of-result c =
    subst (AreAssigned c.new.result c.args.stamp) (sym c.new-2.ensures.items)
    (fresh_propagator c.new.result c.args.stamp (λ index. let none = c.new.ensures index in omega arith))
