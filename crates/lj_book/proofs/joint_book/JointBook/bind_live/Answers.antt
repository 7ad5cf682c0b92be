use Rattle.std.proofs.Common.{◌≡◌, ap, sym, ◌∙◌, subst, ◌+◌, ◌≤◌, arith}
use Rattle.std.specs.Prelude.{option_copied, List, [], ◌∷◌, ◌++◌, length}
use Rattle.lj_clause.specs.ClauseMap.{ClauseMap}
use Rattle.lj_book.specs.declared.entry.Entry.{Entry}
use Rattle.lj_book.specs.State.{State}
use Rattle.lj_book.specs.Calls.{binding_entry}
use Rattle.lj_book.specs.inner.Holders.{holders_of}
use Rattle.lj_book.specs.inner.Kept.{IsKept}
use Rattle.lj_book.specs.inner.Records.{binding_call}
use Rattle.lj_book.proofs.HolderBounds.{holders_bounded}
use Rattle.lj_book.proofs.BindingLaws.{IsKept-bound, bound_state}
use Rattle.lj_book.proofs.joint_book.JointBook.bind_live.Goals as goal

pub bind-requires-clause-capacity : goal.bind-requires-clause-capacity
bind-requires-clause-capacity c =
    let s : State = record { formula = c.self.inside.formula; max_steps = c.self.inside.max_steps; tables = c.self.inside.tables; history = c.self.inside.clause_log.history.entries } in
    let few : holders_of s.tables c.args.joint ≤ length s.tables + length s.history = holders_bounded s c.self.invariant.reached c.args.joint in
    let same : length c.reserve_binding.new.self.history.entries ≡ length s.history = ap (λ (es : List Entry). length es) c.in_ok-reserve_binding.ensures.same in
    let at : c.len-place.result ≡ length c.reserve_binding.new.self.history.entries = c.len-place.ensures.len ∙ ap (λ h. length h.entries) c.history.ensures in
    omega (arith, few, same, at, c.len-place.ensures.few)

pub invariant_of-self-2 : goal.invariant_of-self-2
invariant_of-self-2 c =
    let s : State = record { formula = c.self.inside.formula; max_steps = c.self.inside.max_steps; tables = c.self.inside.tables; history = c.self.inside.clause_log.history.entries } in
    let t = c.args.self.now in
    let entry : Entry = binding_entry c.args.seat (binding_call c.args.own c.args.joint (option_copied c.args.imported)) in
    let pushed : c.push_binding.new.self.history.entries ≡ s.history ++ entry ∷ [] = c.push_binding.ensures.entries ∙ ap (λ (es : List Entry). es ++ entry ∷ []) c.in_ok-reserve_binding.ensures.same in
    let is = bound_state s t c.args.seat c.args.own c.args.joint (binding_call c.args.own c.args.joint (option_copied c.args.imported)) c.bind.new.self c.push_binding.new.self.history.entries c.self.view_is c.requires.binds c.in_ok-bind.ensures.ok pushed in
    let kept = subst (λ (u : State). IsKept u c.self.inside.clause_log.live c.self.inside.added c.self.inside.refuted) c.self.view_is c.self.invariant in
    let lives : c.push_binding.new.self.live ≡ c.self.inside.clause_log.live = c.push_binding.ensures.lives ∙ c.in_ok-reserve_binding.ensures.lives in
    subst (λ (m : ClauseMap). IsKept (record { formula = s.formula; max_steps = s.max_steps; tables = c.bind.new.self; history = c.push_binding.new.self.history.entries }) m c.self.inside.added c.self.inside.refuted) (sym lives)
    (subst (λ (u : State). IsKept u c.self.inside.clause_log.live c.self.inside.added c.self.inside.refuted) (sym is)
    (IsKept-bound t c.self.inside.clause_log.live c.self.inside.added c.self.inside.refuted c.args.seat c.args.own c.args.joint (binding_call c.args.own c.args.joint (option_copied c.args.imported)) kept c.requires.free c.requires.lives c.requires.legal c.requires.binds))
