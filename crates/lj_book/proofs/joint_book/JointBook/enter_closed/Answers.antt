use Rattle.std.proofs.Common.{◌≡◌, ap, sym, ◌∙◌, subst, []}
use Rattle.std.specs.Prelude.{if◌then◌else◌, Some, None, Ok}
use Rattle.lj_text.specs.declared.line.Addition.{Addition}
use Rattle.lj_book.specs.declared.entry.Call.TheVariants as calls
use Rattle.lj_book.specs.declared.entry.Entry.{Entry}
use Rattle.lj_book.specs.State.{State, next}
use Rattle.lj_book.specs.History.{after_entry, IsLegal}
use Rattle.lj_book.specs.inner.JointForms.{with_call}
use Rattle.lj_book.specs.inner.JointLines.{addition_of_parts, line_entry}
use Rattle.lj_book.proofs.HistoryLaws.{IsSound-reached}
use Rattle.lj_book.proofs.InsideLaws.{refusal_passes, inside_refused, IsPivot, entered, entered_legal, line_replied, line_entered}
use Rattle.lj_book.proofs.joint_book.JointBook.enter_closed.Goals as goal

pub returns-in-Err-clause-reply : goal.returns-in-Err-clause-reply
returns-in-Err-clause-reply c =
    let s : State = c.args.self.now in
    let told = c.in-Err.ensures in
    refusal_passes c.in-Err.refusal _ _ (λ x h. inside_refused s c.args.seat c.args.addition.now x (IsSound-reached s told.reached) h) told.reply

pub enter_legal-requires : goal.enter_legal-requires
enter_legal-requires c =
    let s : State = c.args.self.now in
    let told = c.in_default.ensures in
    let step = addition_of_parts (next s) c.args.addition.now.lemma (c.closed_hints.new.hints, []) in
    let lent : c.new-step.result ≡ step = c.new-step.ensures ∙ (λ i. addition_of_parts (c.next.ensures i) c.args.addition.now.lemma (c.closed_hints.new.hints, c.new-groups.ensures i)) in
    let pivot : IsPivot c.args.addition.now.lemma = record { literal = c.has_pivot.ensures.literal; there = c.has_pivot.ensures.there } in
    let e = entered s c.args.seat c.args.addition.now step told.reply in
    subst (λ (a : Addition). IsLegal s (line_entry c.args.seat c.args.addition.now.number a)) (sym lent)
    (entered_legal s c.args.seat c.args.addition.now step e.0 (IsSound-reached s told.reached) pivot e.1)

pub returns-clause-reply : goal.returns-clause-reply
returns-clause-reply c =
    let s : State = c.args.self.now in
    let told = c.in_default.ensures in
    let step = addition_of_parts (next s) c.args.addition.now.lemma (c.closed_hints.new.hints, []) in
    line_replied s c.args.seat c.args.addition.now step (IsSound-reached s told.reached) told.reply
    ∙ ap Ok (sym c.in_ok-added.ensures.told)

pub returns-clause-ok : goal.returns-clause-ok
returns-clause-ok c =
    let s : State = c.args.self.now in
    let told = c.in_default.ensures in
    let step = addition_of_parts (next s) c.args.addition.now.lemma (c.closed_hints.new.hints, []) in
    let lent : c.new-step.result ≡ step = c.new-step.ensures ∙ (λ i. addition_of_parts (c.next.ensures i) c.args.addition.now.lemma (c.closed_hints.new.hints, c.new-groups.ensures i)) in
    c.in_ok-added.ensures.ok
    ∙ ap (λ (a : Addition). after_entry s (line_entry c.args.seat c.args.addition.now.number a)) lent
    ∙ ap (after_entry s) (sym (line_entered s c.args.seat c.args.addition.now step (IsSound-reached s told.reached) told.reply))

pub returns-clause-told : goal.returns-clause-told
returns-clause-told c =
    let s : State = c.args.self.now in
    let told = c.in_default.ensures in
    let step = addition_of_parts (next s) c.args.addition.now.lemma (c.closed_hints.new.hints, []) in
    let lent : c.new-step.result ≡ step = c.new-step.ensures ∙ (λ i. addition_of_parts (c.next.ensures i) c.args.addition.now.lemma (c.closed_hints.new.hints, c.new-groups.ensures i)) in
    c.in_ok-entry.ensures
    ∙ ap (λ (e : Entry). if c.args.wanted then Some (with_call (calls.Add c.args.addition.now.number c.args.named.now) e) else None)
    (ap (λ (a : Addition). line_entry c.args.seat c.args.addition.now.number a) lent ∙ sym (line_entered s c.args.seat c.args.addition.now step (IsSound-reached s told.reached) told.reply))
