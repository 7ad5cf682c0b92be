use Rattle.std.proofs.Common.{◌≡◌, ℕ, ◌<◌, ap, sym, ◌∙◌, subst}
use Rattle.std.specs.Prelude.{ℤ, neg_ℤ, List, false}
use Rattle.lj_clause.specs.LiteralSet.{holds, from_literals}
use Rattle.lj_clause.specs.Propagation.{is_contradictory}
use Rattle.lj_hint.proofs.TrailLaws.{pushed_unopposed}
use Rattle.lj_hint.proofs.assignment.Assignment.insert_unopposed.Goals as goal

pub invariant_of-self-2 : goal.invariant_of-self-2
invariant_of-self-2 c =
    let unopposed : holds (from_literals c.self.inside.trail) (neg_ℤ c.args.lit) ≡ false = ap (λ (ls : List ℤ). holds (from_literals ls) (neg_ℤ c.args.lit)) c.self.view_is ∙ c.requires in
    c.self.invariant
    ∙ sym (pushed_unopposed c.self.inside.trail c.push.new.self c.args.lit c.in_ok-push.ensures.ok (subst (λ (n : ℕ). 0 < n) c.variable.ensures.variable c.variable.ensures.in_range.0) unopposed)

pub returns-clause-contradictory : goal.returns-clause-contradictory
returns-clause-contradictory c =
    let unopposed : holds (from_literals c.self.inside.trail) (neg_ℤ c.args.lit) ≡ false = ap (λ (ls : List ℤ). holds (from_literals ls) (neg_ℤ c.args.lit)) c.self.view_is ∙ c.requires in
    pushed_unopposed c.self.inside.trail c.push.new.self c.args.lit c.in_ok-push.ensures.ok (subst (λ (n : ℕ). 0 < n) c.variable.ensures.variable c.variable.ensures.in_range.0) unopposed
    ∙ ap (λ (ls : List ℤ). is_contradictory (from_literals ls)) c.self.view_is
