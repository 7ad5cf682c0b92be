use Rattle.std.proofs.Common.{◌≡◌, ℕ, ap, ◌∙◌, subst}
use Rattle.std.specs.Prelude.{◌==◌, if◌then◌else◌}
use Rattle.lj_clause.specs.Literal.{index_of}
use Rattle.lj_hint.specs.inner.Stamps.{stamp_at, AreAssigned}
use Rattle.lj_hint.proofs.TrailLaws.{popped_marks}
use Rattle.lj_hint.proofs.trail.Trail.pop.Goals as goal

pub invariant_of-self : goal.invariant_of-self
invariant_of-self c =
    let stamps = c.self.inside.stamps in
    let had = c.in-Some.ensures in
    popped_marks stamps c.erase.new.self c.self.inside.stamp c.pop.new.self.items c.in-Some.lit
    (subst (λ (n : ℕ). (q : ℕ) → stamp_at c.erase.new.self q ≡ (if q == n then 0 else stamp_at stamps q)) (c.index.ensures.index ∙ ap index_of c.negated.ensures) c.erase.ensures)
    (subst (AreAssigned stamps c.self.inside.stamp) had.items c.self.invariant)
