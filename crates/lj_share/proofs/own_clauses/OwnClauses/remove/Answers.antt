use Rattle.std.proofs.Common.{◌≡◌, refl, ◌∙◌, subst, ◌-◌, ◌≤◌, ◌<◌, length, ℕ, None, true}
use Rattle.std.specs.Prelude.{slice_set}
use Rattle.lj_share.specs.inner.Bindings.{IsSet}
use Rattle.lj_share.specs.inner.Seats.{OwnValue, IsUpdated}
use Rattle.lj_share.proofs.OwnLaws.{late_set, early_set}
use Rattle.lj_share.proofs.own_clauses.OwnClauses.remove.Goals as goal

pub returns-then-own-end : goal.returns-then-own-end
returns-then-own-end c =
    let o : OwnValue = record { given_up = c.self.inside.given_up.items; rebound = c.self.inside.rebound; late = c.self.inside.late } in
    let p : OwnValue = record { given_up = c.self.inside.given_up.items; rebound = c.self.inside.rebound; late = c.remove.new.self } in
    let end : c.len-end.result ≡ length o.given_up = c.len-end.ensures ∙ c.self.inside.given_up.ok.0 in
    let behind : length o.given_up ≤ c.args.own = subst (λ (n : ℕ). n ≤ c.args.own) end c.if-own-end.true in
    subst (λ (x : OwnValue). IsUpdated x c.args.own None p) c.self.view_is
    (late_set o p c.args.own None behind refl refl (subst (λ (n : ℕ). IsSet o.late (c.args.own - n) None p.late) end c.remove.ensures))

pub returns : goal.returns
returns c =
    let o : OwnValue = record { given_up = c.self.inside.given_up.items; rebound = c.self.inside.rebound; late = c.self.inside.late } in
    let p : OwnValue = record { given_up = slice_set o.given_up c.args.own true; rebound = c.remove-2.new.self; late = c.self.inside.late } in
    let end : c.len-end.result ≡ length o.given_up = c.len-end.ensures ∙ c.self.inside.given_up.ok.0 in
    let within : c.args.own < length o.given_up = subst (λ (n : ℕ). c.args.own < n) end c.if-own-end.false in
    subst (λ (x : OwnValue). IsUpdated x c.args.own None p) c.self.view_is
    (early_set o p c.args.own None within refl refl c.remove-2.ensures)
