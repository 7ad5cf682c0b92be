use Rattle.std.proofs.Common.{◌≡◌, ◌≤◌, ◌<◌, ap, sym, ◌∙◌, subst, arith}
use Rattle.std.specs.Prelude.{Some}
use Rattle.lj_book.specs.Tables.{table_of}
use Rattle.lj_book.specs.State.{State, addition_count}
use Rattle.lj_book.proofs.HistoryLaws.{IsSound, IsSound-reached}
use Rattle.lj_book.proofs.ClosedLemmas.{closed_here, closed_full, closed_reply, closed_short}
use Rattle.lj_book.proofs.joint_book.JointBook.closed_hints.Goals as goal

pub returns-then-self-clause-reply : goal.returns-then-self-clause-reply
returns-then-self-clause-reply c =
    let s : State = c.args.self.now in
    let sound : IsSound s = subst IsSound c.self.view_is (IsSound-reached _ c.self.invariant.reached) in
    let here = closed_here s c.args.seat c.args.addition.now c.args.read sound c.requires in
    let counted = c.self.invariant.additions in
    let full : s.max_steps ≤ addition_count s.history = subst (λ (t : State). t.max_steps ≤ addition_count t.history) c.self.view_is (omega arith) in
    closed_full s c.args.seat c.args.addition.now c.args.read here full

pub returns-in-Some-clause-reply : goal.returns-in-Some-clause-reply
returns-in-Some-clause-reply c =
    let s : State = c.args.self.now in
    let sound : IsSound s = subst IsSound c.self.view_is (IsSound-reached _ c.self.invariant.reached) in
    let here = closed_here s c.args.seat c.args.addition.now c.args.read sound c.requires in
    let counted = c.self.invariant.additions in
    let capacity : addition_count s.history < s.max_steps = subst (λ (t : State). addition_count t.history < t.max_steps) c.self.view_is (omega arith) in
    let at : table_of s.tables c.args.seat ≡ Some c.in-Some.table.now = ap (λ (t : State). table_of t.tables c.args.seat) (sym c.self.view_is) ∙ sym c.in-Some.ensures in
    closed_reply s c.args.seat c.args.addition.now c.args.read c.in-Some.table.now c.put_first.new.joints c.put_first.result here capacity at c.put_first.ensures

pub returns-in-Some-clause-refusal : goal.returns-in-Some-clause-refusal
returns-in-Some-clause-refusal c =
    let s : State = c.args.self.now in
    let sound : IsSound s = subst IsSound c.self.view_is (IsSound-reached _ c.self.invariant.reached) in
    let here = closed_here s c.args.seat c.args.addition.now c.args.read sound c.requires in
    let at : table_of s.tables c.args.seat ≡ Some c.in-Some.table.now = ap (λ (t : State). table_of t.tables c.args.seat) (sym c.self.view_is) ∙ sym c.in-Some.ensures in
    closed_short s c.args.seat c.args.addition.now c.args.read c.in-Some.table.now c.put_first.new.joints c.put_first.result here at c.put_first.ensures
