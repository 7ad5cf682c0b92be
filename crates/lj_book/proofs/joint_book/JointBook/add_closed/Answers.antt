use Rattle.std.proofs.Common.{◌≡◌, sym, subst}
use Rattle.std.specs.Prelude.{if◌then◌else◌, Option, Some, None, IfOk, OnOk}
use Rattle.lj_book.specs.declared.entry.Added.{Added}
use Rattle.lj_book.specs.declared.entry.Call.TheVariants as calls
use Rattle.lj_book.specs.declared.entry.Entry.{Entry}
use Rattle.lj_book.specs.State.{State}
use Rattle.lj_book.specs.History.{after_entry}
use Rattle.lj_book.specs.Calls.{IsReplyBy}
use Rattle.lj_book.specs.Inside.{inside_reply, inside_entry}
use Rattle.lj_book.specs.inner.JointForms.{with_call}
use Rattle.lj_book.proofs.joint_book.JointBook.add_closed.Goals as goal

pub returns-clause-reply : goal.returns-clause-reply
returns-clause-reply c = subst (λ (t : State). IsReplyBy (λ (told : Added × Option Entry). told.0) c.enter_closed-told.result (inside_reply t c.args.seat c.args.addition.now)) c.lend_joints-hints.ensures c.enter_closed-told.ensures.reply

pub returns-clause-told : goal.returns-clause-told
returns-clause-told c = subst (λ (t : State). IfOk c.enter_closed-told.result (λ told. told.1 ≡ (if c.args.wanted then Some (with_call (calls.Add c.args.addition.now.number c.args.named.now) (inside_entry t c.args.seat c.args.addition.now)) else None))) c.lend_joints-hints.ensures c.enter_closed-told.ensures.told

pub returns-clause-ok : goal.returns-clause-ok
returns-clause-ok c =
    let s : State = record { formula = c.self.inside.formula; max_steps = c.self.inside.max_steps; tables = c.self.inside.tables; history = c.self.inside.clause_log.history.entries } in
    subst (λ (t : State). OnOk c.enter_closed-told.result (s ≡ after_entry t (inside_entry t c.args.seat c.args.addition.now))) c.lend_joints-hints.ensures
    (subst (λ (u : State). OnOk c.enter_closed-told.result (u ≡ after_entry c.lend_joints-hints.new.self (inside_entry c.lend_joints-hints.new.self c.args.seat c.args.addition.now))) (sym c.self.view_is) c.enter_closed-told.ensures.ok)
