use Rattle.std.proofs.Common.{ℕ, ◌<◌, sym, subst, arith}
use Rattle.lj_hint.specs.declared.trail.Trail.TheInside.{Inside}
use Rattle.lj_hint.specs.inner.Stamps.{stamp_at, AreAssigned}
use Rattle.lj_hint.proofs.TrailLaws.{fresh_propagator}
use Rattle.lj_hint.proofs.trail.Trail.clear.Goals as goal
use Rattle.lj_hint.proofs.trail.Trail.clear.Goals.{then-self, else-self}

pub invariant_of-self : goal.invariant_of-self
invariant_of-self c =
    let now = c.if-self.self-inside in
    let below : (index : ℕ) → stamp_at now.stamps index < now.stamp = elim c.if-self.branch [
      | then-self w ↦ subst (λ (s : Inside). (index : ℕ) → stamp_at s.stamps index < s.stamp) (sym w.self-inside-is) (λ index. let none = w.clear.ensures index in omega arith)
      | else-self w ↦ subst (λ (s : Inside). (index : ℕ) → stamp_at s.stamps index < s.stamp) (sym w.self-inside-is) (λ index. let most = c.self.invariant.greatest index in omega arith)
    ] in
    subst (AreAssigned now.stamps now.stamp) (sym c.clear-2.ensures.items) (fresh_propagator now.stamps now.stamp below)
