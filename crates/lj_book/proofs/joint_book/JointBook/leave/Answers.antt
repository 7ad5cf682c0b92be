use Rattle.std.proofs.Common.{◌≡◌, ap, sym, ◌∙◌, subst, ℕ, refl, arith, ◌≤◌}
use Rattle.std.specs.Prelude.{List, Option, [], ◌∷◌, ◌++◌, length, not}
use Rattle.lj_text.specs.declared.step.Step.{Step}
use Rattle.lj_text.specs.Steps.{without}
use Rattle.lj_text.specs.Needed.{if_some}
use Rattle.lj_book.specs.declared.entry.Call.TheVariants as calls
use Rattle.lj_book.specs.declared.entry.Entry.{Entry}
use Rattle.lj_book.specs.Tables.{has_holder, without_seat}
use Rattle.lj_book.specs.State.{State}
use Rattle.lj_book.specs.History.{after_entry}
use Rattle.lj_book.specs.inner.Kept.{IsKept}
use Rattle.lj_book.specs.Calls.{leave_entry}
use Rattle.lj_book.proofs.HistoryLaws.{IsSound-reached}
use Rattle.lj_book.proofs.LeaveLaws.{IsKept-leave, left_dead, left_state}
use Rattle.lj_book.proofs.Lists.{length-filter-le}
use Rattle.lj_book.proofs.joint_book.JointBook.leave.Goals as goal

pub invariant_of-self-2 : goal.invariant_of-self-2
invariant_of-self-2 c =
    let s : State = record { formula = c.self.inside.formula; max_steps = c.self.inside.max_steps; tables = c.self.inside.tables; history = c.self.inside.clause_log.history.entries } in
    let here = sym c.is_here.ensures ∙ c.if-not-is_here.false in
    let ns = c.new-numbers.result in
    let gone : c.leave.new.self ≡ without_seat s.tables c.args.seat = c.leave.ensures in
    let dead = left_dead s c.args.seat ns c.rising-joints.result.items c.without_holder-died.result.items c.leave.new.self (IsSound-reached s c.self.invariant.reached) here (c.new-numbers.ensures ∙ c.in_ok-own_numbers.ensures) gone c.rising-joints.ensures.rising (λ q. c.rising-joints.ensures.same q ∙ c.in_ok-joints.ensures q) c.without_holder-died.ensures in
    let entry : Entry = record { seat = c.args.seat; call = calls.Leave; step = (if_some c.without_holder-died.result.items) } in
    let pushed : c.push_leave.new.self.history.entries ≡ s.history ++ entry ∷ [] = c.push_leave.ensures.entries ∙ ap (λ (ds : List ℕ). c.reserve_deaths.new.self.history.entries ++ record { seat = c.args.seat; call = calls.Leave; step = if_some ds } ∷ []) c.deref.ensures.value ∙ ap (λ (es : List Entry). es ++ entry ∷ []) c.in_ok-reserve_deaths.ensures.same in
    let is = left_state s c.args.seat c.without_holder-died.result.items c.leave.new.self (if_some c.without_holder-died.result.items) c.push_leave.new.self.history.entries gone dead refl pushed in
    subst (λ (t : State). IsKept t c.push_leave.new.self.live c.self.inside.added c.self.inside.refuted) (sym is)
    (IsKept-leave s c.self.inside.clause_log.live c.push_leave.new.self.live c.self.inside.added c.self.inside.refuted c.args.seat c.self.invariant here (c.push_leave.ensures.lives ∙ (λ i. without (c.in_ok-reserve_deaths.ensures.lives i) ((c.deref.ensures.value ∙ dead) i))))

pub returns-clause-told : goal.returns-clause-told
returns-clause-told c =
    let s : State = record { formula = c.self.inside.formula; max_steps = c.self.inside.max_steps; tables = c.self.inside.tables; history = c.self.inside.clause_log.history.entries } in
    let here = sym c.is_here.ensures ∙ c.if-not-is_here.false in
    let ns = c.new-numbers.result in
    let gone : c.leave.new.self ≡ without_seat s.tables c.args.seat = c.leave.ensures in
    let dead = left_dead s c.args.seat ns c.rising-joints.result.items c.without_holder-died.result.items c.leave.new.self (IsSound-reached s c.self.invariant.reached) here (c.new-numbers.ensures ∙ c.in_ok-own_numbers.ensures) gone c.rising-joints.ensures.rising (λ q. c.rising-joints.ensures.same q ∙ c.in_ok-joints.ensures q) c.without_holder-died.ensures in
    let entry : Option Step → Entry = λ o. record { seat = c.args.seat; call = calls.Leave; step = o } in
    ap entry (c.deletion_of-step.ensures ∙ ap if_some dead) ∙ ap (λ (t : State). leave_entry t c.args.seat) c.self.view_is

pub returns-clause-ok : goal.returns-clause-ok
returns-clause-ok c =
    let s : State = record { formula = c.self.inside.formula; max_steps = c.self.inside.max_steps; tables = c.self.inside.tables; history = c.self.inside.clause_log.history.entries } in
    let here = sym c.is_here.ensures ∙ c.if-not-is_here.false in
    let ns = c.new-numbers.result in
    let gone : c.leave.new.self ≡ without_seat s.tables c.args.seat = c.leave.ensures in
    let dead = left_dead s c.args.seat ns c.rising-joints.result.items c.without_holder-died.result.items c.leave.new.self (IsSound-reached s c.self.invariant.reached) here (c.new-numbers.ensures ∙ c.in_ok-own_numbers.ensures) gone c.rising-joints.ensures.rising (λ q. c.rising-joints.ensures.same q ∙ c.in_ok-joints.ensures q) c.without_holder-died.ensures in
    let entry : Entry = record { seat = c.args.seat; call = calls.Leave; step = (if_some c.without_holder-died.result.items) } in
    let pushed : c.push_leave.new.self.history.entries ≡ s.history ++ entry ∷ [] = c.push_leave.ensures.entries ∙ ap (λ (ds : List ℕ). c.reserve_deaths.new.self.history.entries ++ record { seat = c.args.seat; call = calls.Leave; step = if_some ds } ∷ []) c.deref.ensures.value ∙ ap (λ (es : List Entry). es ++ entry ∷ []) c.in_ok-reserve_deaths.ensures.same in
    left_state s c.args.seat c.without_holder-died.result.items c.leave.new.self (if_some c.without_holder-died.result.items) c.push_leave.new.self.history.entries gone dead refl pushed
    ∙ ap (λ (t : State). after_entry t (leave_entry t c.args.seat)) c.self.view_is

pub push_leave-requires-clause-encoding : goal.push_leave-requires-clause-encoding
push_leave-requires-clause-encoding c =
    let js : List ℕ = c.rising-joints.result.items in
    let died : length c.deref.result.now ≤ length js = subst (λ (ds : List ℕ). length ds ≤ length js) (sym c.without_holder-died.ensures ∙ sym c.deref.ensures.value) (length-filter-le (λ n. not (has_holder c.leave.new.self n)) js) in
    omega (arith, c.in_ok-reserve_deaths.ensures.encoding, c.len.ensures, c.rising-joints.result.ok.0)
