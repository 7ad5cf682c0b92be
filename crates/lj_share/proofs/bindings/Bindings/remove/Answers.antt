use Rattle.std.proofs.Common.{None, subst}
use Rattle.std.specs.FinMap as fin
use Rattle.lj_share.specs.inner.Bindings.{BindingsValue, IsSet}
use Rattle.lj_share.proofs.BindingLaws.{alike_of, alike_out, set_out}
use Rattle.lj_share.proofs.bindings.Bindings.remove.Goals as goal

pub invariant_of-self : goal.invariant_of-self
invariant_of-self c =
    let b : BindingsValue = record { clauses = c.self.inside.clauses; joints = c.self.inside.joints } in
    alike_of (fin.remove b.clauses c.args.number) c.remove.new.self (fin.remove b.joints c.args.number) c.remove-3.new.self c.remove.ensures.removed c.remove-3.ensures.removed (alike_out b.clauses b.joints c.args.number c.self.invariant)

pub returns : goal.returns
returns c =
    let b : BindingsValue = record { clauses = c.self.inside.clauses; joints = c.self.inside.joints } in
    let a : BindingsValue = record { clauses = c.remove.new.self; joints = c.remove-3.new.self } in
    subst (λ (x : BindingsValue). IsSet x c.args.number None a) c.self.view_is (set_out b a c.args.number c.remove.ensures.removed c.remove-3.ensures.removed)
