use Rattle.std.proofs.Common.{◌≡◌, ap, sym, ◌∙◌, subst, ℕ, Bool, true, false, refl, arith, ◌≤◌}
use Rattle.std.specs.Prelude.{List, [], ◌∷◌, ◌++◌, length, not, if◌then◌else◌, Some, None, option_map}
use Rattle.lj_text.specs.Steps.{without}
use Rattle.lj_text.specs.Needed.{if_some}
use Rattle.lj_book.specs.declared.entry.Call.TheVariants as calls
use Rattle.lj_book.specs.declared.entry.Entry.{Entry}
use Rattle.lj_book.specs.Tables.{has_holder}
use Rattle.lj_book.specs.State.{State}
use Rattle.lj_book.specs.History.{after_entry}
use Rattle.lj_book.specs.inner.Kept.{IsKept}
use Rattle.lj_book.specs.Calls.{drop_entry}
use Rattle.lj_book.proofs.HistoryLaws.{IsSound-reached}
use Rattle.lj_book.proofs.BookLaws.{IsKept-drop, found_dead, dropped_state}
use Rattle.lj_book.proofs.Lists.{length-filter-le}
use Rattle.lj_book.proofs.joint_book.JointBook.drop_numbers.Goals as goal

pub invariant_of-self-2 : goal.invariant_of-self-2
invariant_of-self-2 c =
    let s : State = record { formula = c.self.inside.formula; max_steps = c.self.inside.max_steps; tables = c.self.inside.tables; history = c.self.inside.clause_log.history.entries } in
    let ns = c.args.numbers.now in
    let here = sym c.is_here.ensures ∙ c.if-not-is_here.false in
    let dead = found_dead s c.args.seat ns c.rising-joints.result.items c.without_holder-died.result.items c.unbind_all-count.new.self (IsSound-reached s c.self.invariant.reached) here c.unbind_all-count.ensures.removed c.rising-joints.ensures.rising (λ q. c.rising-joints.ensures.same q ∙ c.in_ok-joints.ensures q) c.without_holder-died.ensures in
    let entry : Entry = record { seat = c.args.seat; call = calls.Drop ns; step = (if_some c.without_holder-died.result.items) } in
    let pushed : c.push_drop.new.self.history.entries ≡ s.history ++ entry ∷ [] = c.push_drop.ensures.entries ∙ ap (λ (ds : List ℕ). c.reserve_deaths.new.self.history.entries ++ record { seat = c.args.seat; call = calls.Drop ns; step = if_some ds } ∷ []) c.deref.ensures.value ∙ ap (λ (es : List Entry). es ++ entry ∷ []) c.in_ok-reserve_deaths.ensures.same in
    let is = dropped_state s c.args.seat ns ns c.without_holder-died.result.items c.unbind_all-count.new.self (if_some c.without_holder-died.result.items) c.push_drop.new.self.history.entries c.unbind_all-count.ensures.removed refl dead refl pushed in
    subst (λ (t : State). IsKept t c.push_drop.new.self.live c.self.inside.added c.self.inside.refuted) (sym is)
    (IsKept-drop s c.self.inside.clause_log.live c.push_drop.new.self.live c.self.inside.added c.self.inside.refuted c.args.seat ns c.self.invariant here (c.push_drop.ensures.lives ∙ (λ i. without (c.in_ok-reserve_deaths.ensures.lives i) ((c.deref.ensures.value ∙ dead) i))))

-- what is told of a copy that is made where it is wanted
told_if : {A B : Type 0} (b : Bool) (f : A → B) (x : A) → option_map f (if b then Some x else None) ≡ (if b then Some (f x) else None)
told_if true f x = refl
told_if false f x = refl

pub returns-clause-told : goal.returns-clause-told
returns-clause-told c =
    let s : State = record { formula = c.self.inside.formula; max_steps = c.self.inside.max_steps; tables = c.self.inside.tables; history = c.self.inside.clause_log.history.entries } in
    let ns = c.args.numbers.now in
    let here = sym c.is_here.ensures ∙ c.if-not-is_here.false in
    let dead = found_dead s c.args.seat ns c.rising-joints.result.items c.without_holder-died.result.items c.unbind_all-count.new.self (IsSound-reached s c.self.invariant.reached) here c.unbind_all-count.ensures.removed c.rising-joints.ensures.rising (λ q. c.rising-joints.ensures.same q ∙ c.in_ok-joints.ensures q) c.without_holder-died.ensures in
    let entry : List ℕ → List ℕ → Entry = λ ms ds. record { seat = c.args.seat; call = calls.Drop ms; step = if_some ds } in
    c.entry_of_drop.ensures
    ∙ ap (option_map (λ ms. entry ms c.without_holder-died.result.items)) c.in_ok-copied.ensures
    ∙ told_if c.args.wanted (λ ms. entry ms c.without_holder-died.result.items) ns
    ∙ ap (λ (e : Entry). if c.args.wanted then Some e else None) (ap (entry ns) dead ∙ ap (λ (t : State). drop_entry t c.args.seat ns) c.self.view_is)

pub returns-clause-ok : goal.returns-clause-ok
returns-clause-ok c =
    let s : State = record { formula = c.self.inside.formula; max_steps = c.self.inside.max_steps; tables = c.self.inside.tables; history = c.self.inside.clause_log.history.entries } in
    let ns = c.args.numbers.now in
    let here = sym c.is_here.ensures ∙ c.if-not-is_here.false in
    let dead = found_dead s c.args.seat ns c.rising-joints.result.items c.without_holder-died.result.items c.unbind_all-count.new.self (IsSound-reached s c.self.invariant.reached) here c.unbind_all-count.ensures.removed c.rising-joints.ensures.rising (λ q. c.rising-joints.ensures.same q ∙ c.in_ok-joints.ensures q) c.without_holder-died.ensures in
    let entry : Entry = record { seat = c.args.seat; call = calls.Drop ns; step = (if_some c.without_holder-died.result.items) } in
    let pushed : c.push_drop.new.self.history.entries ≡ s.history ++ entry ∷ [] = c.push_drop.ensures.entries ∙ ap (λ (ds : List ℕ). c.reserve_deaths.new.self.history.entries ++ record { seat = c.args.seat; call = calls.Drop ns; step = if_some ds } ∷ []) c.deref.ensures.value ∙ ap (λ (es : List Entry). es ++ entry ∷ []) c.in_ok-reserve_deaths.ensures.same in
    dropped_state s c.args.seat ns ns c.without_holder-died.result.items c.unbind_all-count.new.self (if_some c.without_holder-died.result.items) c.push_drop.new.self.history.entries c.unbind_all-count.ensures.removed refl dead refl pushed
    ∙ ap (λ (t : State). after_entry t (drop_entry t c.args.seat ns)) c.self.view_is

pub push_drop-requires-clause-encoding : goal.push_drop-requires-clause-encoding
push_drop-requires-clause-encoding c =
    let js : List ℕ = c.rising-joints.result.items in
    let died : length c.deref.result.now ≤ length js = subst (λ (ds : List ℕ). length ds ≤ length js) (sym c.without_holder-died.ensures ∙ sym c.deref.ensures.value) (length-filter-le (λ n. not (has_holder c.unbind_all-count.new.self n)) js) in
    omega (arith, c.in_ok-reserve_deaths.ensures.encoding, c.len.ensures, c.len-2.ensures, c.rising-joints.result.ok.0)
