use Rattle.std.proofs.Common.{◌≡◌, ap, sym, ◌∙◌, subst}
use Rattle.std.specs.Prelude.{Option, Some, None, is_some, if◌then◌else◌, Result, Err, IfOk, IfErr, OnOk, OnErr}
use Rattle.std.proofs.lemmas.Bool.{false≢true}
use Rattle.std.specs.FinMap as fin
use Rattle.lj_clause.specs.LiteralSet.{LiteralSet}
use Rattle.lj_text.specs.declared.step.Step.{Step}
use Rattle.lj_book.specs.declared.entry.Call.TheVariants as calls
use Rattle.lj_book.specs.declared.entry.Imported.{Imported}
use Rattle.lj_book.specs.declared.found.Found.TheVariants.{Part}
use Rattle.lj_book.specs.declared.refusal.Refusal.{Refusal}
use Rattle.lj_book.specs.State.{State, live}
use Rattle.lj_book.specs.Imports.{found}
use Rattle.lj_book.specs.Calls.{IsReplyBy, if_free, imported}
use Rattle.lj_book.specs.inner.Bindings.{import_reply, import_entry}
use Rattle.lj_book.specs.inner.JointForms.{with_call}
use Rattle.lj_book.specs.inner.Records.{entry_of}
use Rattle.lj_book.specs.History.{tables_after, with_found, after_entry, IsLegalCall}
use Rattle.lj_book.specs.Tables.{with_binding}
use Rattle.lj_book.proofs.BindingLaws.{can_bind}
use Rattle.lj_book.proofs.Parts.{FindsEqual, equal_found}
use Rattle.lj_book.proofs.joint_book.JointBook.import.Goals as goal

pub bind_live-requires-clause-lives : goal.bind_live-requires-clause-lives
bind_live-requires-clause-lives c =
    let s : State = c.args.self.now in
    let d : LiteralSet = c.args.clause.now in
    let f : FindsEqual s d c.in-Equal.joint = equal_found s d c.in-Equal.joint (sym c.found.ensures.found ∙ c.in-Equal.is) in
    ap (λ (t : State). fin.contains_key (live t) c.in-Equal.joint) c.found.ensures.same ∙ ap is_some f.lives

pub bind_live-requires-clause-legal : goal.bind_live-requires-clause-legal
bind_live-requires-clause-legal c =
    let s : State = c.args.self.now in
    let d : LiteralSet = c.args.clause.now in
    let f : FindsEqual s d c.in-Equal.joint = equal_found s d c.in-Equal.joint (sym c.found.ensures.found ∙ c.in-Equal.is) in
    let can = can_bind s c.args.seat c.args.own (sym c.free_refusal.ensures ∙ c.in_default.is) in
    subst (λ (t : State). IsLegalCall t c.args.seat (calls.Import c.args.own d) None) (sym c.found.ensures.same)
    (record { here = can.here; unbound = can.unbound; finds = ap is_some f.number; capacity = λ some. absurd (false≢true some); asked = sym f.step })

pub bind_live-requires-clause-binds : goal.bind_live-requires-clause-binds
bind_live-requires-clause-binds c =
    let s : State = c.args.self.now in
    let d : LiteralSet = c.args.clause.now in
    let f : FindsEqual s d c.in-Equal.joint = equal_found s d c.in-Equal.joint (sym c.found.ensures.found ∙ c.in-Equal.is) in
    subst (λ (t : State). tables_after t c.args.seat (calls.Import c.args.own d) ≡ with_binding t.tables c.args.seat c.args.own c.in-Equal.joint) (sym c.found.ensures.same)
    (ap (with_found s.tables c.args.seat c.args.own) f.number)

pub returns-in_ok-place-in-Equal-clause-told : goal.returns-in_ok-place-in-Equal-clause-told
returns-in_ok-place-in-Equal-clause-told c =
    let s : State = c.args.self.now in
    let d : LiteralSet = c.args.clause.now in
    let f : FindsEqual s d c.in-Equal.joint = equal_found s d c.in-Equal.joint (sym c.found.ensures.found ∙ c.in-Equal.is) in
    c.in_ok-entry-in-Equal.ensures
    ∙ ap (λ (o : Option Step). if c.args.wanted then Some (entry_of c.args.seat (calls.Import c.args.own c.args.named.now) o) else None) (sym f.step)

pub returns-in_ok-place-in-Equal-clause-ok : goal.returns-in_ok-place-in-Equal-clause-ok
returns-in_ok-place-in-Equal-clause-ok c =
    let s : State = c.args.self.now in
    let d : LiteralSet = c.args.clause.now in
    let f : FindsEqual s d c.in-Equal.joint = equal_found s d c.in-Equal.joint (sym c.found.ensures.found ∙ c.in-Equal.is) in
    c.in_ok-place-in-Equal.ensures.ok
    ∙ (λ i. after_entry (c.found.ensures.same i) (record { seat = c.args.seat; call = calls.Import c.args.own d; step = sym f.step i }))

pub returns-in-Part-clause-reply : goal.returns-in-Part-clause-reply
returns-in-Part-clause-reply c =
    let s : State = c.args.self.now in
    let d : LiteralSet = c.args.clause.now in
    let is : imported c.found.new.self (Part c.in-Part.part) ≡ import_reply s c.args.seat c.args.own d =
    ap (λ (t : State). imported t (Part c.in-Part.part)) c.found.ensures.same
    ∙ ap (imported s) (sym c.in-Part.is ∙ c.found.ensures.found)
    ∙ sym (ap (λ (o : Option Refusal). if_free o (imported s (found s d))) (sym c.free_refusal.ensures ∙ c.in_default.is)) in
    subst (λ (r : Result Imported Refusal). IsReplyBy (λ told. told.0) c.import_by_part.result r) is c.import_by_part.ensures.reply

pub returns-in-Part-clause-refused : goal.returns-in-Part-clause-refused
returns-in-Part-clause-refused c =
    let s : State = c.args.self.now in
    let d : LiteralSet = c.args.clause.now in
    let is : imported c.found.new.self (Part c.in-Part.part) ≡ import_reply s c.args.seat c.args.own d =
    ap (λ (t : State). imported t (Part c.in-Part.part)) c.found.ensures.same
    ∙ ap (imported s) (sym c.in-Part.is ∙ c.found.ensures.found)
    ∙ sym (ap (λ (o : Option Refusal). if_free o (imported s (found s d))) (sym c.free_refusal.ensures ∙ c.in_default.is)) in
    subst (λ (r : Result Imported Refusal). IfErr r (λ e. c.import_by_part.result ≡ Err e)) is c.import_by_part.ensures.refused

pub returns-in-Part-clause-told : goal.returns-in-Part-clause-told
returns-in-Part-clause-told c =
    subst (λ (t : State). IfOk c.import_by_part.result (λ told. told.1 ≡ (if c.args.wanted then Some (with_call (calls.Import c.args.own c.args.named.now) (import_entry t c.args.seat c.args.own c.args.clause.now)) else None))) c.found.ensures.same c.import_by_part.ensures.told

pub returns-in-Part-clause-ok : goal.returns-in-Part-clause-ok
returns-in-Part-clause-ok c =
    subst (λ (t : State). OnOk c.import_by_part.result (c.import_by_part.new.self ≡ after_entry t (import_entry t c.args.seat c.args.own c.args.clause.now))) c.found.ensures.same c.import_by_part.ensures.ok

pub returns-in-Part-clause-err : goal.returns-in-Part-clause-err
returns-in-Part-clause-err c =
    subst (λ (t : State). OnErr c.import_by_part.result (c.import_by_part.new.self ≡ t)) c.found.ensures.same c.import_by_part.ensures.err
