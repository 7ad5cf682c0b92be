use Rattle.std.proofs.Common.{◌≡◌, ap, sym, ◌∙◌, ℕ, ◌<◌, ◌≤◌, arith}
use Rattle.std.specs.Prelude.{[], ◌∷◌, ◌++◌, if◌then◌else◌, Some, None, Ok, length}
use Rattle.std.specs.FinMap as fin
use Rattle.lj_text.specs.declared.line.Addition.{Addition}
use Rattle.lj_book.specs.declared.entry.Added.{Added}
use Rattle.lj_book.specs.declared.entry.Call.TheVariants as calls
use Rattle.lj_book.specs.declared.entry.Entry.{Entry}
use Rattle.lj_book.specs.declared.refusal.Refusal.TheVariants.{Full}
use Rattle.lj_book.specs.State.{State, addition_count, next}
use Rattle.lj_book.specs.Calls.{free_refusal}
use Rattle.lj_book.specs.Inside.{inside_reply, inside_entry}
use Rattle.lj_book.specs.inner.Kept.{refuted_after}
use Rattle.lj_book.specs.History.{after_entry}
use Rattle.lj_book.specs.inner.JointForms.{with_call}
use Rattle.lj_book.specs.inner.JointLines.{addition_of_parts, inside_line, line_entry}
use Rattle.lj_book.proofs.HistoryLaws.{IsSound-reached}
use Rattle.lj_book.proofs.InsideLaws.{refusal_passes, parts_refused, parts_full, parts_passed, inside_refused, IsPivot, line_can, line_made, line_replied, line_entered}
use Rattle.lj_book.proofs.joint_book.JointBook.add_inside.Goals as goal

pub returns-in-Err-clause-reply : goal.returns-in-Err-clause-reply
returns-in-Err-clause-reply c =
    let s : State = record { formula = c.self.inside.formula; max_steps = c.self.inside.max_steps; tables = c.self.inside.tables; history = c.self.inside.clause_log.history.entries } in
    let seat = c.args.seat in
    let a = c.args.addition.now in
    let free : free_refusal s seat a.number ≡ None = ap (λ (t : State). free_refusal t seat a.number) c.self.view_is ∙ sym c.free_refusal.ensures ∙ c.in_default.is in
    let sound = IsSound-reached s c.self.invariant.reached in
    refusal_passes c.in-Err.refusal _ _
    (λ x one. ap (λ (t : State). inside_reply t seat a) (sym c.self.view_is) ∙ inside_refused s seat a x sound (parts_refused c.self.inside.clause_log.live s seat a x c.self.invariant.lives free one))
    (c.in-Err.ensures.reply (next s))

pub returns-then-self-clause-reply : goal.returns-then-self-clause-reply
returns-then-self-clause-reply c =
    let s : State = record { formula = c.self.inside.formula; max_steps = c.self.inside.max_steps; tables = c.self.inside.tables; history = c.self.inside.clause_log.history.entries } in
    let seat = c.args.seat in
    let a = c.args.addition.now in
    let free : free_refusal s seat a.number ≡ None = ap (λ (t : State). free_refusal t seat a.number) c.self.view_is ∙ sym c.free_refusal.ensures ∙ c.in_default.is in
    let sound = IsSound-reached s c.self.invariant.reached in
    let tested = addition_of_parts (next s) a.lemma (c.recorded_line.new.hints, c.recorded_line.new.joints) in
    let full : s.max_steps ≤ addition_count s.history = let counted = c.self.invariant.additions in omega arith in
    ap (λ (t : State). inside_reply t seat a) (sym c.self.view_is)
    ∙ inside_refused s seat a Full sound (parts_full c.self.inside.clause_log.live s seat a tested c.self.invariant.lives free (c.in_default-recorded_line.ensures.reply (next s)) full)

pub enter_step-requires-clause-no_holder : goal.enter_step-requires-clause-no_holder
enter_step-requires-clause-no_holder c =
    let s : State = record { formula = c.self.inside.formula; max_steps = c.self.inside.max_steps; tables = c.self.inside.tables; history = c.self.inside.clause_log.history.entries } in
    let seat = c.args.seat in
    let a = c.args.addition.now in
    let free : free_refusal s seat a.number ≡ None = ap (λ (t : State). free_refusal t seat a.number) c.self.view_is ∙ sym c.free_refusal.ensures ∙ c.in_default.is in
    let sound = IsSound-reached s c.self.invariant.reached in
    let step = c.new-step.result in
    let joint : c.next-joint.result ≡ next s = c.next-joint.ensures ∙ ap next (sym c.self.view_is) in
    let lent : step ≡ addition_of_parts (next s) a.lemma (c.recorded_line.new.hints, c.recorded_line.new.joints) = c.new-step.ensures ∙ (λ i. addition_of_parts (joint i) a.lemma (c.recorded_line.new.hints, c.recorded_line.new.joints)) in
    let capacity : addition_count s.history < s.max_steps = let counted = c.self.invariant.additions in omega arith in
    let passed : inside_line s seat a ≡ Ok step = parts_passed c.self.inside.clause_log.live s seat a step c.self.invariant.lives free (c.in_default-recorded_line.ensures.reply (next s) ∙ ap Ok (sym lent)) capacity in
    (line_can s seat a step sound passed).1

pub invariant_of-self-2 : goal.invariant_of-self-2
invariant_of-self-2 c =
    let s : State = record { formula = c.self.inside.formula; max_steps = c.self.inside.max_steps; tables = c.self.inside.tables; history = c.self.inside.clause_log.history.entries } in
    let seat = c.args.seat in
    let a = c.args.addition.now in
    let free : free_refusal s seat a.number ≡ None = ap (λ (t : State). free_refusal t seat a.number) c.self.view_is ∙ sym c.free_refusal.ensures ∙ c.in_default.is in
    let sound = IsSound-reached s c.self.invariant.reached in
    let step = c.new-step.result in
    let joint : c.next-joint.result ≡ next s = c.next-joint.ensures ∙ ap next (sym c.self.view_is) in
    let lent : step ≡ addition_of_parts (next s) a.lemma (c.recorded_line.new.hints, c.recorded_line.new.joints) = c.new-step.ensures ∙ (λ i. addition_of_parts (joint i) a.lemma (c.recorded_line.new.hints, c.recorded_line.new.joints)) in
    let capacity : addition_count s.history < s.max_steps = let counted = c.self.invariant.additions in omega arith in
    let passed : inside_line s seat a ≡ Ok step = parts_passed c.self.inside.clause_log.live s seat a step c.self.invariant.lives free (c.in_default-recorded_line.ensures.reply (next s) ∙ ap Ok (sym lent)) capacity in
    let place : c.len-place.result ≡ length s.history = c.len-place.ensures.len ∙ ap (λ h. length h.entries) c.history.ensures ∙ (λ i. length (c.in_default-recorded_line.ensures.same i).history.entries) in
    let pivot : IsPivot a.lemma = record { literal = c.has_pivot.ensures.literal; there = c.has_pivot.ensures.there } in
    let pushed : c.enter_step.new.clause_log.history.entries ≡ s.history ++ line_entry seat a.number step ∷ [] = c.in_ok-enter_step.ensures.entries ∙ (λ i. (c.in_default-recorded_line.ensures.same i).history.entries ++ line_entry seat a.number step ∷ []) in
    let lives : c.enter_step.new.clause_log.live ≡ fin.insert c.self.inside.clause_log.live step.number step.lemma.clause = c.in_ok-enter_step.ensures.live ∙ (λ i. fin.insert (c.in_default-recorded_line.ensures.same i).live step.number step.lemma.clause) in
    let clause : c.step.inside.clause ≡ step.lemma.clause = c.step.invariant ∙ ap (λ (x : Addition). x.lemma.clause) c.step.view_is in
    let refuted = c.refuted_at-self-inside.ensures ∙ (λ i. refuted_after c.self.inside.refuted (place i) (clause i)) in
    let made = line_made s seat a step c.self.inside.clause_log.live c.enter_step.new.clause_log.live c.self.inside.added c.self.inside.refuted c.refuted_at-self-inside.result c.enter_step.new.tables c.enter_step.new.clause_log.history.entries c.self.invariant pivot passed c.in_ok-enter_step.ensures.tables pushed lives refuted in
    made.0

pub returns-clause-told : goal.returns-clause-told
returns-clause-told c =
    let s : State = record { formula = c.self.inside.formula; max_steps = c.self.inside.max_steps; tables = c.self.inside.tables; history = c.self.inside.clause_log.history.entries } in
    let seat = c.args.seat in
    let a = c.args.addition.now in
    let free : free_refusal s seat a.number ≡ None = ap (λ (t : State). free_refusal t seat a.number) c.self.view_is ∙ sym c.free_refusal.ensures ∙ c.in_default.is in
    let sound = IsSound-reached s c.self.invariant.reached in
    let step = c.new-step.result in
    let joint : c.next-joint.result ≡ next s = c.next-joint.ensures ∙ ap next (sym c.self.view_is) in
    let lent : step ≡ addition_of_parts (next s) a.lemma (c.recorded_line.new.hints, c.recorded_line.new.joints) = c.new-step.ensures ∙ (λ i. addition_of_parts (joint i) a.lemma (c.recorded_line.new.hints, c.recorded_line.new.joints)) in
    let capacity : addition_count s.history < s.max_steps = let counted = c.self.invariant.additions in omega arith in
    let passed : inside_line s seat a ≡ Ok step = parts_passed c.self.inside.clause_log.live s seat a step c.self.invariant.lives free (c.in_default-recorded_line.ensures.reply (next s) ∙ ap Ok (sym lent)) capacity in
    c.in_ok-entry.ensures
    ∙ ap (λ (e : Entry). if c.args.wanted then Some (with_call (calls.Add a.number c.args.named.now) e) else None) (sym (line_entered s seat a step sound passed) ∙ ap (λ (t : State). inside_entry t seat a) c.self.view_is)

pub returns-clause-reply : goal.returns-clause-reply
returns-clause-reply c =
    let s : State = record { formula = c.self.inside.formula; max_steps = c.self.inside.max_steps; tables = c.self.inside.tables; history = c.self.inside.clause_log.history.entries } in
    let seat = c.args.seat in
    let a = c.args.addition.now in
    let free : free_refusal s seat a.number ≡ None = ap (λ (t : State). free_refusal t seat a.number) c.self.view_is ∙ sym c.free_refusal.ensures ∙ c.in_default.is in
    let sound = IsSound-reached s c.self.invariant.reached in
    let step = c.new-step.result in
    let joint : c.next-joint.result ≡ next s = c.next-joint.ensures ∙ ap next (sym c.self.view_is) in
    let lent : step ≡ addition_of_parts (next s) a.lemma (c.recorded_line.new.hints, c.recorded_line.new.joints) = c.new-step.ensures ∙ (λ i. addition_of_parts (joint i) a.lemma (c.recorded_line.new.hints, c.recorded_line.new.joints)) in
    let capacity : addition_count s.history < s.max_steps = let counted = c.self.invariant.additions in omega arith in
    let passed : inside_line s seat a ≡ Ok step = parts_passed c.self.inside.clause_log.live s seat a step c.self.invariant.lives free (c.in_default-recorded_line.ensures.reply (next s) ∙ ap Ok (sym lent)) capacity in
    let place : c.len-place.result ≡ length s.history = c.len-place.ensures.len ∙ ap (λ h. length h.entries) c.history.ensures ∙ (λ i. length (c.in_default-recorded_line.ensures.same i).history.entries) in
    let told : ℕ → ℕ → Added = λ p j. record { place = p; joint = j } in
    ap (λ (t : State). inside_reply t seat a) (sym c.self.view_is)
    ∙ line_replied s seat a step sound passed
    ∙ (λ i. Ok (told (sym place i) (sym joint i)))

pub returns-clause-ok : goal.returns-clause-ok
returns-clause-ok c =
    let s : State = record { formula = c.self.inside.formula; max_steps = c.self.inside.max_steps; tables = c.self.inside.tables; history = c.self.inside.clause_log.history.entries } in
    let seat = c.args.seat in
    let a = c.args.addition.now in
    let free : free_refusal s seat a.number ≡ None = ap (λ (t : State). free_refusal t seat a.number) c.self.view_is ∙ sym c.free_refusal.ensures ∙ c.in_default.is in
    let sound = IsSound-reached s c.self.invariant.reached in
    let step = c.new-step.result in
    let joint : c.next-joint.result ≡ next s = c.next-joint.ensures ∙ ap next (sym c.self.view_is) in
    let lent : step ≡ addition_of_parts (next s) a.lemma (c.recorded_line.new.hints, c.recorded_line.new.joints) = c.new-step.ensures ∙ (λ i. addition_of_parts (joint i) a.lemma (c.recorded_line.new.hints, c.recorded_line.new.joints)) in
    let capacity : addition_count s.history < s.max_steps = let counted = c.self.invariant.additions in omega arith in
    let passed : inside_line s seat a ≡ Ok step = parts_passed c.self.inside.clause_log.live s seat a step c.self.invariant.lives free (c.in_default-recorded_line.ensures.reply (next s) ∙ ap Ok (sym lent)) capacity in
    let place : c.len-place.result ≡ length s.history = c.len-place.ensures.len ∙ ap (λ h. length h.entries) c.history.ensures ∙ (λ i. length (c.in_default-recorded_line.ensures.same i).history.entries) in
    let pivot : IsPivot a.lemma = record { literal = c.has_pivot.ensures.literal; there = c.has_pivot.ensures.there } in
    let pushed : c.enter_step.new.clause_log.history.entries ≡ s.history ++ line_entry seat a.number step ∷ [] = c.in_ok-enter_step.ensures.entries ∙ (λ i. (c.in_default-recorded_line.ensures.same i).history.entries ++ line_entry seat a.number step ∷ []) in
    let lives : c.enter_step.new.clause_log.live ≡ fin.insert c.self.inside.clause_log.live step.number step.lemma.clause = c.in_ok-enter_step.ensures.live ∙ (λ i. fin.insert (c.in_default-recorded_line.ensures.same i).live step.number step.lemma.clause) in
    let clause : c.step.inside.clause ≡ step.lemma.clause = c.step.invariant ∙ ap (λ (x : Addition). x.lemma.clause) c.step.view_is in
    let refuted = c.refuted_at-self-inside.ensures ∙ (λ i. refuted_after c.self.inside.refuted (place i) (clause i)) in
    let made = line_made s seat a step c.self.inside.clause_log.live c.enter_step.new.clause_log.live c.self.inside.added c.self.inside.refuted c.refuted_at-self-inside.result c.enter_step.new.tables c.enter_step.new.clause_log.history.entries c.self.invariant pivot passed c.in_ok-enter_step.ensures.tables pushed lives refuted in
    made.1
    ∙ ap (after_entry s) (sym (line_entered s seat a step sound passed))
    ∙ ap (λ (t : State). after_entry t (inside_entry t seat a)) c.self.view_is
