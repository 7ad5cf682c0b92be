use Rattle.std.proofs.Common.{◌≡◌, ℕ, ◌<◌, true, ap, sym, ◌∙◌, subst}
use Rattle.std.proofs.Math.Bool.{or-true}
use Rattle.std.specs.Prelude.{ℤ, List, neg_ℤ, ◌||◌}
use Rattle.lj_clause.specs.LiteralSet.{holds, from_literals}
use Rattle.lj_clause.specs.Propagation.{is_contradictory}
use Rattle.lj_hint.proofs.Contradictions.{is_contradictory-with_literal}
use Rattle.lj_hint.proofs.TrailLaws.{from_literals-push}
use Rattle.lj_hint.proofs.assignment.Assignment.insert_opposed.Goals as goal

pub invariant_of-self-2 : goal.invariant_of-self-2
invariant_of-self-2 c =
    let old = from_literals c.self.inside.trail in
    let opposed : holds old (neg_ℤ c.args.lit) ≡ true = ap (λ (ls : List ℤ). holds (from_literals ls) (neg_ℤ c.args.lit)) c.self.view_is ∙ c.requires.opposed in
    sym (or-true (is_contradictory old))
    ∙ ap (λ b. is_contradictory old || b) (sym opposed)
    ∙ sym (is_contradictory-with_literal old c.args.lit (subst (λ (n : ℕ). 0 < n) c.variable.ensures.variable c.variable.ensures.in_range.0))
    ∙ sym (ap is_contradictory (ap from_literals c.in_ok-push.ensures.ok ∙ from_literals-push c.self.inside.trail c.args.lit))
