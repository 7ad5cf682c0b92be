use Rattle.std.proofs.Common.{◌≡◌, true, subst, sym, refl, ◌∙◌}
use Rattle.std.specs.Prelude.{is_some}
use Rattle.std.specs.FinMap as fin
use Rattle.lj_share.specs.inner.Bindings.{BindingsValue, IsSet, bound_at, under_joint}
use Rattle.lj_share.proofs.BindingLaws.{alike_again, alike_of, put_again, set_again}
use Rattle.lj_share.proofs.bindings.Bindings.set_joint.Goals as goal

pub invariant_of-self : goal.invariant_of-self
invariant_of-self c =
    let b : BindingsValue = record { clauses = c.self.inside.clauses; joints = c.self.inside.joints } in
    let has : is_some (fin.get b.joints c.args.number) ≡ true = sym c.contains_key.ensures ∙ c.if-contains_key.true in
    let put = put_again b.joints c.insert.new.self c.args.number c.args.joint c.insert.result c.insert.ensures.ok c.insert.ensures.absent has in
    alike_of b.clauses b.clauses (fin.insert b.joints c.args.number c.args.joint) c.insert.new.self refl put (alike_again b.clauses b.joints c.args.number c.args.joint has c.self.invariant)

pub returns-then-contains_key : goal.returns-then-contains_key
returns-then-contains_key c =
    let b : BindingsValue = record { clauses = c.self.inside.clauses; joints = c.self.inside.joints } in
    let a : BindingsValue = record { clauses = c.self.inside.clauses; joints = c.insert.new.self } in
    let has : is_some (fin.get b.joints c.args.number) ≡ true = sym c.contains_key.ensures ∙ c.if-contains_key.true in
    let put = put_again b.joints c.insert.new.self c.args.number c.args.joint c.insert.result c.insert.ensures.ok c.insert.ensures.absent has in
    subst (λ (x : BindingsValue). IsSet x c.args.number (under_joint c.args.joint (bound_at x c.args.number)) a) c.self.view_is (set_again b a c.args.number c.args.joint has refl put)
