use Rattle.std.proofs.Common.{◌≡◌, refl, ◌∙◌, subst, ◌-◌, ◌≤◌, ◌<◌, length, ℕ, Some, true}
use Rattle.std.specs.Prelude.{slice_set}
use Rattle.lj_clause.specs.LiteralSet.{LiteralSet}
use Rattle.lj_book.proofs.TableLaws.{ok_then}
use Rattle.lj_share.specs.inner.Bindings.{IsSet}
use Rattle.lj_share.specs.inner.Seats.{OwnValue, IsUpdated, AreSamePairs}
use Rattle.lj_share.proofs.OwnLaws.{late_set, early_set, late_same, err_then}
use Rattle.lj_share.proofs.own_clauses.OwnClauses.insert.Goals as goal

pub returns-then-own-end-clause-ok : goal.returns-then-own-end-clause-ok
returns-then-own-end-clause-ok c =
    let o : OwnValue = record { given_up = c.self.inside.given_up.items; rebound = c.self.inside.rebound; late = c.self.inside.late } in
    let p : OwnValue = record { given_up = c.self.inside.given_up.items; rebound = c.self.inside.rebound; late = c.insert.new.self } in
    let end : c.len-end.result ≡ length o.given_up = c.len-end.ensures ∙ c.self.inside.given_up.ok.0 in
    let behind : length o.given_up ≤ c.args.own = subst (λ (n : ℕ). n ≤ c.args.own) end c.if-own-end.true in
    ok_then c.insert.result c.insert.ensures.ok (λ set.
    subst (λ (x : OwnValue). IsUpdated x c.args.own (Some (record { joint = 0; clause = c.args.clause.now })) p) c.self.view_is
    (late_set o p c.args.own (Some (record { joint = 0; clause = c.args.clause.now })) behind refl refl
    (subst (λ (x : ℕ × LiteralSet). IsSet o.late (c.args.own - x.0) (Some (record { joint = 0; clause = x.1 })) p.late) (λ i. (end i, c.in_ok-clause.ensures i)) set)))

pub returns-then-own-end-clause-err : goal.returns-then-own-end-clause-err
returns-then-own-end-clause-err c =
    let o : OwnValue = record { given_up = c.self.inside.given_up.items; rebound = c.self.inside.rebound; late = c.self.inside.late } in
    let p : OwnValue = record { given_up = c.self.inside.given_up.items; rebound = c.self.inside.rebound; late = c.insert.new.self } in
    err_then c.insert.result c.insert.ensures.err (λ same. subst (λ (x : OwnValue). AreSamePairs x p) c.self.view_is (late_same o p refl refl same))

pub returns-clause-ok : goal.returns-clause-ok
returns-clause-ok c =
    let o : OwnValue = record { given_up = c.self.inside.given_up.items; rebound = c.self.inside.rebound; late = c.self.inside.late } in
    let p : OwnValue = record { given_up = slice_set o.given_up c.args.own true; rebound = c.insert-2.new.self; late = c.self.inside.late } in
    let end : c.len-end.result ≡ length o.given_up = c.len-end.ensures ∙ c.self.inside.given_up.ok.0 in
    let within : c.args.own < length o.given_up = subst (λ (n : ℕ). c.args.own < n) end c.if-own-end.false in
    subst (λ (x : OwnValue). IsUpdated x c.args.own (Some (record { joint = 0; clause = c.args.clause.now })) p) c.self.view_is
    (early_set o p c.args.own (Some (record { joint = 0; clause = c.args.clause.now })) within refl refl
    (subst (λ (x : LiteralSet). IsSet o.rebound c.args.own (Some (record { joint = 0; clause = x })) p.rebound) c.in_ok-clause.ensures c.in_ok-insert.ensures.ok))
