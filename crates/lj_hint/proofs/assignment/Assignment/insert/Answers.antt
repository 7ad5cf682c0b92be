use Rattle.std.proofs.Common.{◌≡◌, ℕ, ◌<◌, ap, sym, ◌∙◌, subst}
use Rattle.std.specs.Prelude.{neg_ℤ, false}
use Rattle.lj_clause.specs.LiteralSet.{holds, from_literals}
use Rattle.lj_hint.proofs.TrailLaws.{pushed_unopposed}
use Rattle.lj_hint.proofs.assignment.Assignment.insert.Goals as goal

pub invariant_of-self-2 : goal.invariant_of-self-2
invariant_of-self-2 c =
    let old = from_literals c.self.inside.trail in
    let unopposed : holds old (neg_ℤ c.args.lit) ≡ false = ap (holds old) (sym c.negated.ensures) ∙ sym c.holds-2.ensures ∙ c.if-holds-2.false in
    c.self.invariant
    ∙ sym (pushed_unopposed c.self.inside.trail c.push.new.self c.args.lit c.in_ok-push.ensures.ok (subst (λ (n : ℕ). 0 < n) c.variable.ensures.variable c.variable.ensures.in_range.0) unopposed)
