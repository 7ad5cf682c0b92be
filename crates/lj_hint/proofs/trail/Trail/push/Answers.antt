use Rattle.std.proofs.Common.{◌≡◌, ℕ, ap, sym, ◌∙◌, subst}
use Rattle.std.specs.Prelude.{ℤ, List, [], ◌∷◌, ◌++◌, ◌==◌, if◌then◌else◌}
use Rattle.lj_clause.specs.Literal.{index_of}
use Rattle.lj_clause.specs.LiteralSet.{holds, from_literals}
use Rattle.lj_hint.specs.inner.Stamps.{stamp_at, AreAssigned}
use Rattle.lj_hint.proofs.TrailLaws.{pushed_marks}
use Rattle.lj_hint.proofs.trail.Trail.push.Goals as goal

pub invariant_of-self-2 : goal.invariant_of-self-2
invariant_of-self-2 c =
    let stamps = c.self.inside.stamps in
    let stamp = c.self.inside.stamp in
    let lits = c.self.inside.lits.items in
    let new = ap (λ (ls : List ℤ). holds (from_literals ls) c.args.lit) c.self.view_is ∙ c.requires in
    subst (AreAssigned c.set.new.self stamp) (sym (c.push_reserved.ensures.items ∙ ap (λ (ls : List ℤ). ls ++ c.args.lit ∷ []) c.in_ok-reserve_one.ensures.same))
    (pushed_marks stamps c.set.new.self stamp lits c.args.lit new
    (subst (λ (n : ℕ). (q : ℕ) → stamp_at c.set.new.self q ≡ (if q == n then stamp else stamp_at stamps q)) (c.index.ensures.index ∙ ap index_of c.negated.ensures) c.in_ok-set.ensures.ok)
    c.self.invariant)
