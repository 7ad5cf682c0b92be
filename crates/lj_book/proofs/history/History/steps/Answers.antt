use Rattle.std.proofs.Common.{◌≡◌, ap, sym, ◌∙◌, rules, arith, ◌<◌, ℕ, take, get_or, length, subst}
use Rattle.std.specs.Prelude.{ℤ, List, [], ◌∷◌, ◌++◌, Some, filter_map, drop}
use Rattle.std.proofs.lemmas.Option.{none-some}
use Rattle.lj_text.specs.declared.step.Step.{Step}
use Rattle.lj_book.specs.State.{steps_of}
use Rattle.lj_book.specs.inner.Records.{entry_in, entries_in}
use Rattle.lj_book.proofs.RecordLaws.{step_at, step_at-is, all_steps, some_step}
use Rattle.lj_book.proofs.Lists.{picked, passed_by}
use Rattle.lj_book.proofs.history.History.steps.Goals as goal
use Rattle.lj_book.proofs.history.History.steps.Goals.{in-Some+in_ok-push, in_default}

pub returns-clause-same : goal.returns-clause-same
returns-clause-same c =
    all_steps c.self.inside.lits.items c.self.inside.encoding.items c.self.inside.starts.items c.loop-start.start-index c.loop-start.steps.items (c.loop-start.invariant ∙ ap (λ (xs : List ℕ). filter_map (step_at c.self.inside.lits.items c.self.inside.encoding.items) (take c.loop-start.start-index xs)) c.deref-start-items.ensures.value) (let n : length c.deref-start-items.result.now ≡ length c.self.inside.starts.items = ap (λ (xs : List ℕ). length xs) c.deref-start-items.ensures.value in omega (arith, c.loop-start-test.false))
    ∙ ap (λ h. steps_of h.entries) c.self.view_is

pub loop-start-preserved : goal.loop-start-preserved
loop-start-preserved c =
    let xs : List ℕ = c.deref-start-items.result.now in
    let k : ℕ = c.loop-start.start-index in
    let at : c.encoding_from-encoding.result.now ≡ drop (get_or xs k 0) c.self.inside.encoding.items = c.encoding_from-encoding.ensures ∙ ap (drop (get_or xs k 0)) c.deref.ensures.value in
    let is : c.in_ok-step.field-0 ≡ step_at c.self.inside.lits.items c.self.inside.encoding.items (get_or xs k 0) = c.in_ok-step.ensures.same ∙ (λ i. (entry_in (c.deref-in-loop-start.ensures.value i) (at i)).step) ∙ sym (step_at-is c.self.inside.lits.items c.self.inside.encoding.items (get_or xs k 0)) in
    elim c.match-branch-2.branch [
      | in-Some+in_ok-push w ↦ ap (λ v. v.items) w.steps-is ∙ w.in_ok-push.ensures.items ∙ ap (λ (ss : List Step). ss ++ w.in-Some.step ∷ []) c.loop-start.invariant ∙ sym (picked (step_at c.self.inside.lits.items c.self.inside.encoding.items) xs k 0 w.in-Some.step c.loop-start-test.true (sym is ∙ w.in-Some.is))
      | in_default w ↦ ap (λ v. v.items) w.steps-is ∙ c.loop-start.invariant ∙ sym (passed_by (step_at c.self.inside.lits.items c.self.inside.encoding.items) xs k 0 c.loop-start-test.true (sym is ∙ w.in_default.is))
    ]

pub returns-in_err-step-clause-some : goal.returns-in_err-step-clause-some
returns-in_err-step-clause-some c =
    let ls : List ℤ = c.self.inside.lits.items in
    let ws : List ℕ = c.self.inside.encoding.items in
    let ss : List ℕ = c.self.inside.starts.items in
    let xs : List ℕ = c.deref-start-items.result.now in
    let k : ℕ = c.loop-start.start-index in
    let at : c.encoding_from-encoding.result.now ≡ drop (get_or xs k 0) ws = c.encoding_from-encoding.ensures ∙ ap (drop (get_or xs k 0)) c.deref.ensures.value in
    let read : (entry_in c.deref-in-loop-start.result.now c.encoding_from-encoding.result.now).step ≡ step_at ls ws (get_or ss k 0) = (λ i. (entry_in (c.deref-in-loop-start.ensures.value i) (at i)).step) ∙ sym (step_at-is ls ws (get_or xs k 0)) ∙ ap (λ ys. step_at ls ws (get_or ys k 0)) c.deref-start-items.ensures.value in
    let lt : k < length ss = subst (λ (ys : List ℕ). k < length ys) c.deref-start-items.ensures.value c.loop-start-test.true in
    let some : steps_of (entries_in ls ws ss) ≡ [] → ⊥ = some_step ls ws ss k lt (λ e. c.in_err-step.ensures.some (read ∙ e)) in
    let whole : steps_of c.args.self.now.entries ≡ [] → ⊥ = λ e. some (ap (λ h. steps_of h.entries) c.self.view_is ∙ e) in
    search (rules, whole)

pub returns-in_err-push-clause-some : goal.returns-in_err-push-clause-some
returns-in_err-push-clause-some c =
    let ls : List ℤ = c.self.inside.lits.items in
    let ws : List ℕ = c.self.inside.encoding.items in
    let ss : List ℕ = c.self.inside.starts.items in
    let xs : List ℕ = c.deref-start-items.result.now in
    let k : ℕ = c.loop-start.start-index in
    let at : c.encoding_from-encoding.result.now ≡ drop (get_or xs k 0) ws = c.encoding_from-encoding.ensures ∙ ap (drop (get_or xs k 0)) c.deref.ensures.value in
    let read : (entry_in c.deref-in-loop-start.result.now c.encoding_from-encoding.result.now).step ≡ step_at ls ws (get_or ss k 0) = (λ i. (entry_in (c.deref-in-loop-start.ensures.value i) (at i)).step) ∙ sym (step_at-is ls ws (get_or xs k 0)) ∙ ap (λ ys. step_at ls ws (get_or ys k 0)) c.deref-start-items.ensures.value in
    let lt : k < length ss = subst (λ (ys : List ℕ). k < length ys) c.deref-start-items.ensures.value c.loop-start-test.true in
    let is : Some c.in-Some.step ≡ step_at ls ws (get_or ss k 0) = sym c.in-Some.is ∙ c.in_ok-step.ensures.same ∙ read in
    let some : steps_of (entries_in ls ws ss) ≡ [] → ⊥ = some_step ls ws ss k lt (λ e. none-some c.in-Some.step (sym e ∙ sym is)) in
    let whole : steps_of c.args.self.now.entries ≡ [] → ⊥ = λ e. some (ap (λ h. steps_of h.entries) c.self.view_is ∙ e) in
    search (rules, whole)
