use Rattle.std.proofs.Common.{◌≡◌, ap, sym, ◌∙◌, subst, ℕ, ◌+◌, ◌<◌, arith}
use Rattle.std.specs.Prelude.{Option, length}
use Rattle.std.specs.FinMap as fin
use Rattle.lj_text.specs.declared.line.Addition.{Addition}
use Rattle.lj_book.specs.Tables.{has_holder}
use Rattle.lj_book.specs.State.{State, addition_count}
use Rattle.lj_book.specs.Calls.{commit_told}
use Rattle.lj_book.specs.History.{after_entry, IsLegal}
use Rattle.lj_book.specs.inner.Kept.{IsKept, refuted_after}
use Rattle.lj_book.specs.inner.Records.{entering_entry}
use Rattle.lj_book.proofs.HistoryLaws.{IsSound-reached}
use Rattle.lj_book.proofs.CommitLaws.{no_holder_at_next}
use Rattle.lj_book.proofs.InsideLaws.{entering, IsKept-entering, entering_state}
use Rattle.lj_book.proofs.joint_book.JointBook.enter_legal.Goals as goal

pub enter_step-requires-clause-here : goal.enter_step-requires-clause-here
enter_step-requires-clause-here c =
    let s : State = record { formula = c.self.inside.formula; max_steps = c.self.inside.max_steps; tables = c.self.inside.tables; history = c.self.inside.clause_log.history.entries } in
    let step : Addition = c.args.step.now in
    let legal : IsLegal s (entering_entry c.args.is_import c.args.seat c.args.own step) = subst (λ (t : State). IsLegal t (entering_entry c.args.is_import c.args.seat c.args.own step)) (sym c.self.view_is) c.requires in
    let e = entering s c.args.is_import c.args.seat c.args.own step legal in
    e.here

pub enter_step-requires-clause-unbound : goal.enter_step-requires-clause-unbound
enter_step-requires-clause-unbound c =
    let s : State = record { formula = c.self.inside.formula; max_steps = c.self.inside.max_steps; tables = c.self.inside.tables; history = c.self.inside.clause_log.history.entries } in
    let step : Addition = c.args.step.now in
    let legal : IsLegal s (entering_entry c.args.is_import c.args.seat c.args.own step) = subst (λ (t : State). IsLegal t (entering_entry c.args.is_import c.args.seat c.args.own step)) (sym c.self.view_is) c.requires in
    let e = entering s c.args.is_import c.args.seat c.args.own step legal in
    e.unbound

pub enter_step-requires-clause-no_holder : goal.enter_step-requires-clause-no_holder
enter_step-requires-clause-no_holder c =
    let s : State = record { formula = c.self.inside.formula; max_steps = c.self.inside.max_steps; tables = c.self.inside.tables; history = c.self.inside.clause_log.history.entries } in
    let step : Addition = c.args.step.now in
    let legal : IsLegal s (entering_entry c.args.is_import c.args.seat c.args.own step) = subst (λ (t : State). IsLegal t (entering_entry c.args.is_import c.args.seat c.args.own step)) (sym c.self.view_is) c.requires in
    let e = entering s c.args.is_import c.args.seat c.args.own step legal in
    ap (has_holder s.tables) e.number ∙ no_holder_at_next s (IsSound-reached s c.self.invariant.reached)

pub overflow_add-self : goal.overflow_add-self
overflow_add-self c =
    let s : State = record { formula = c.self.inside.formula; max_steps = c.self.inside.max_steps; tables = c.self.inside.tables; history = c.self.inside.clause_log.history.entries } in
    let step : Addition = c.args.step.now in
    let legal : IsLegal s (entering_entry c.args.is_import c.args.seat c.args.own step) = subst (λ (t : State). IsLegal t (entering_entry c.args.is_import c.args.seat c.args.own step)) (sym c.self.view_is) c.requires in
    let e = entering s c.args.is_import c.args.seat c.args.own step legal in
    let capacity : addition_count s.history < s.max_steps = e.capacity in
    let counted = c.self.invariant.additions in
    omega arith

pub invariant_of-self-2 : goal.invariant_of-self-2
invariant_of-self-2 c =
    let s : State = record { formula = c.self.inside.formula; max_steps = c.self.inside.max_steps; tables = c.self.inside.tables; history = c.self.inside.clause_log.history.entries } in
    let step : Addition = c.args.step.now in
    let legal : IsLegal s (entering_entry c.args.is_import c.args.seat c.args.own step) = subst (λ (t : State). IsLegal t (entering_entry c.args.is_import c.args.seat c.args.own step)) (sym c.self.view_is) c.requires in
    let e = entering s c.args.is_import c.args.seat c.args.own step legal in
    let place : c.len-place.result ≡ length s.history = c.len-place.ensures.len ∙ ap (λ h. length h.entries) c.history.ensures in
    let clause : c.step.inside.clause ≡ step.lemma.clause = c.step.invariant ∙ ap (λ (x : Addition). x.lemma.clause) c.step.view_is in
    let refuted = c.refuted_at-self-inside.ensures ∙ (λ i. refuted_after c.self.inside.refuted (place i) (clause i)) in
    let number = e.number in
    let is = entering_state s c.args.is_import c.args.seat c.args.own step c.enter_step.new.tables c.enter_step.new.clause_log.history.entries e c.in_ok-enter_step.ensures.tables c.in_ok-enter_step.ensures.entries in
    subst (λ (o : Option ℕ). IsKept (record { formula = s.formula; max_steps = s.max_steps; tables = c.enter_step.new.tables; history = c.enter_step.new.clause_log.history.entries }) c.enter_step.new.clause_log.live (c.self.inside.added + 1) o) (sym refuted)
    (subst (λ (t : State). IsKept t c.enter_step.new.clause_log.live (c.self.inside.added + 1) (refuted_after c.self.inside.refuted (length s.history) step.lemma.clause)) (sym is)
    (IsKept-entering s c.args.is_import c.args.seat c.args.own step c.self.inside.clause_log.live c.enter_step.new.clause_log.live c.self.inside.added c.self.inside.refuted c.self.invariant legal (c.in_ok-enter_step.ensures.live ∙ ap (λ (j : ℕ). fin.insert c.self.inside.clause_log.live j step.lemma.clause) number)))

pub returns-clause-ok : goal.returns-clause-ok
returns-clause-ok c =
    let s : State = record { formula = c.self.inside.formula; max_steps = c.self.inside.max_steps; tables = c.self.inside.tables; history = c.self.inside.clause_log.history.entries } in
    let step : Addition = c.args.step.now in
    let legal : IsLegal s (entering_entry c.args.is_import c.args.seat c.args.own step) = subst (λ (t : State). IsLegal t (entering_entry c.args.is_import c.args.seat c.args.own step)) (sym c.self.view_is) c.requires in
    let e = entering s c.args.is_import c.args.seat c.args.own step legal in
    let is = entering_state s c.args.is_import c.args.seat c.args.own step c.enter_step.new.tables c.enter_step.new.clause_log.history.entries e c.in_ok-enter_step.ensures.tables c.in_ok-enter_step.ensures.entries in
    is ∙ ap (λ (t : State). after_entry t (entering_entry c.args.is_import c.args.seat c.args.own step)) c.self.view_is

pub returns-clause-told : goal.returns-clause-told
returns-clause-told c =
    let s : State = record { formula = c.self.inside.formula; max_steps = c.self.inside.max_steps; tables = c.self.inside.tables; history = c.self.inside.clause_log.history.entries } in
    let step : Addition = c.args.step.now in
    let legal : IsLegal s (entering_entry c.args.is_import c.args.seat c.args.own step) = subst (λ (t : State). IsLegal t (entering_entry c.args.is_import c.args.seat c.args.own step)) (sym c.self.view_is) c.requires in
    let e = entering s c.args.is_import c.args.seat c.args.own step legal in
    let place : c.len-place.result ≡ length s.history = c.len-place.ensures.len ∙ ap (λ h. length h.entries) c.history.ensures in
    (λ i. record { place = place i; joint = (ap (λ (x : Addition). x.number) c.step.view_is ∙ e.number) i }) ∙ ap commit_told c.self.view_is
