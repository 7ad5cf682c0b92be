use Rattle.std.proofs.Common.{◌≡◌, refl, ◌∙◌, subst, ◌-◌, ◌≤◌, ◌<◌, length, ℕ}
use Rattle.lj_share.specs.inner.Bindings.{IsSet, bound_at, under_joint}
use Rattle.lj_share.specs.inner.Seats.{OwnValue, IsJointSet}
use Rattle.lj_share.proofs.OwnLaws.{late_joint, early_joint}
use Rattle.lj_share.proofs.own_clauses.OwnClauses.set_joint.Goals as goal

pub returns-then-own-end : goal.returns-then-own-end
returns-then-own-end c =
    let o : OwnValue = record { given_up = c.self.inside.given_up.items; rebound = c.self.inside.rebound; late = c.self.inside.late } in
    let p : OwnValue = record { given_up = c.self.inside.given_up.items; rebound = c.self.inside.rebound; late = c.set_joint.new.self } in
    let end : c.len-end.result ≡ length o.given_up = c.len-end.ensures ∙ c.self.inside.given_up.ok.0 in
    let behind : length o.given_up ≤ c.args.own = subst (λ (n : ℕ). n ≤ c.args.own) end c.if-own-end.true in
    subst (λ (x : OwnValue). IsJointSet x c.args.own c.args.joint p) c.self.view_is
    (late_joint o p c.args.own c.args.joint behind refl refl (subst (λ (n : ℕ). IsSet o.late (c.args.own - n) (under_joint c.args.joint (bound_at o.late (c.args.own - n))) p.late) end c.set_joint.ensures))

pub returns : goal.returns
returns c =
    let o : OwnValue = record { given_up = c.self.inside.given_up.items; rebound = c.self.inside.rebound; late = c.self.inside.late } in
    let p : OwnValue = record { given_up = c.self.inside.given_up.items; rebound = c.set_joint-2.new.self; late = c.self.inside.late } in
    let end : c.len-end.result ≡ length o.given_up = c.len-end.ensures ∙ c.self.inside.given_up.ok.0 in
    let within : c.args.own < length o.given_up = subst (λ (n : ℕ). c.args.own < n) end c.if-own-end.false in
    subst (λ (x : OwnValue). IsJointSet x c.args.own c.args.joint p) c.self.view_is
    (early_joint o p c.args.own c.args.joint within refl refl c.set_joint-2.ensures)
