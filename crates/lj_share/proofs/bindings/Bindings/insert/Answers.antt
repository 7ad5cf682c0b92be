use Rattle.std.proofs.Common.{Some, subst, ◌∙◌, ap}
use Rattle.std.specs.FinMap as fin
use Rattle.lj_share.specs.inner.Bindings.{BindingsValue, IsSet, bound_at}
use Rattle.lj_share.proofs.BindingLaws.{Joints, alike_back, alike_of, alike_put, same_back, set_put}
use Rattle.lj_share.proofs.bindings.Bindings.insert.Goals as goal

pub invariant_of-self-in-Ok : goal.invariant_of-self-in-Ok
invariant_of-self-in-Ok c =
    let b : BindingsValue = record { clauses = c.self.inside.clauses; joints = c.self.inside.joints } in
    alike_of (fin.insert b.clauses c.args.number c.args.clause) c.insert-2.new.self (fin.insert b.joints c.args.number 0) c.insert.new.self c.in-Ok.ensures.ok c.in_ok-insert.ensures.ok (alike_put b.clauses b.joints c.args.number 0 c.args.clause c.self.invariant)

pub invariant_of-self-in-Err : goal.invariant_of-self-in-Err
invariant_of-self-in-Err c =
    let b : BindingsValue = record { clauses = c.self.inside.clauses; joints = c.self.inside.joints } in
    alike_of b.clauses c.insert-2.new.self (fin.remove (fin.insert b.joints c.args.number 0) c.args.number) c.remove.new.self c.in-Err.ensures.err (c.remove.ensures.removed ∙ ap (λ (js : Joints). fin.remove js c.args.number) c.in_ok-insert.ensures.ok) (alike_back b.clauses b.joints c.args.number 0 c.in-Err.ensures.absent c.self.invariant)

pub returns-in-Ok-clause-ok : goal.returns-in-Ok-clause-ok
returns-in-Ok-clause-ok c =
    let b : BindingsValue = record { clauses = c.self.inside.clauses; joints = c.self.inside.joints } in
    let a : BindingsValue = record { clauses = c.insert-2.new.self; joints = c.insert.new.self } in
    subst (λ (x : BindingsValue). IsSet x c.args.number (Some (record { joint = 0; clause = c.args.clause })) a) c.self.view_is (set_put b a c.args.number 0 c.args.clause c.in-Ok.ensures.ok c.in_ok-insert.ensures.ok)

pub returns-in-Err-clause-err : goal.returns-in-Err-clause-err
returns-in-Err-clause-err c n =
    let b : BindingsValue = record { clauses = c.self.inside.clauses; joints = c.self.inside.joints } in
    let a : BindingsValue = record { clauses = c.insert-2.new.self; joints = c.remove.new.self } in
    same_back b a c.args.number 0 c.in-Err.ensures.absent c.self.invariant c.in-Err.ensures.err (c.remove.ensures.removed ∙ ap (λ (js : Joints). fin.remove js c.args.number) c.in_ok-insert.ensures.ok) n
    ∙ ap (λ (x : BindingsValue). bound_at x n) c.self.view_is
