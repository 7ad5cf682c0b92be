use Rattle.std.proofs.Common.{◌≡◌, ap, sym, ◌∙◌, subst, true}
use Rattle.std.specs.Prelude.{if◌then◌else◌, Option, Some, None, IfOk, OnOk}
use Rattle.lj_text.specs.declared.line.Addition.{Addition}
use Rattle.lj_book.specs.declared.entry.Added.{Added}
use Rattle.lj_book.specs.declared.entry.Call.TheVariants as calls
use Rattle.lj_book.specs.declared.entry.Entry.{Entry}
use Rattle.lj_book.specs.Variables.{renaming_of}
use Rattle.lj_book.specs.History.{after_entry}
use Rattle.lj_book.specs.Calls.{IsReplyBy}
use Rattle.lj_book.specs.Inside.{inside_reply, inside_entry}
use Rattle.lj_book.specs.Solo.{view_of}
use Rattle.lj_book.specs.Views.{IsClosedAlone}
use Rattle.lj_book.specs.inner.JointForms.{joint_form, is_unmoved, with_call}
use Rattle.lj_book.proofs.JointFormLaws.{unmoved_form}
use Rattle.lj_book.proofs.joint_forms.close_joint_form.Goals as goal

pub add_closed-requires : goal.add_closed-requires
add_closed-requires c =
    let v = c.args.variables.now.variables in
    let a : Addition = c.args.addition.now in
    let still : is_unmoved (renaming_of v c.args.seat) a.lemma.clause ≡ true =
    ap (is_unmoved (renaming_of v c.args.seat)) (sym c.clause.ensures.clause) ∙ sym c.is_unmoved.ensures ∙ c.if-is_unmoved.true in
    let same : a ≡ joint_form v c.args.seat a = sym (unmoved_form v c.args.seat a c.clause.ensures.lemma still) in
    subst (λ (b : Addition). IsClosedAlone (view_of c.args.joint.now c.args.seat) c.args.seat b c.args.read) (sym same) c.requires

pub returns-then-is_unmoved-clause-reply : goal.returns-then-is_unmoved-clause-reply
returns-then-is_unmoved-clause-reply c =
    let v = c.args.variables.now.variables in
    let a : Addition = c.args.addition.now in
    let still : is_unmoved (renaming_of v c.args.seat) a.lemma.clause ≡ true =
    ap (is_unmoved (renaming_of v c.args.seat)) (sym c.clause.ensures.clause) ∙ sym c.is_unmoved.ensures ∙ c.if-is_unmoved.true in
    let same : a ≡ joint_form v c.args.seat a = sym (unmoved_form v c.args.seat a c.clause.ensures.lemma still) in
    subst (λ (b : Addition). IsReplyBy (λ (told : Added × Option Entry). told.0) c.add_closed.result (inside_reply c.args.joint.now c.args.seat b)) same c.add_closed.ensures.reply

pub returns-then-is_unmoved-clause-ok : goal.returns-then-is_unmoved-clause-ok
returns-then-is_unmoved-clause-ok c =
    let v = c.args.variables.now.variables in
    let a : Addition = c.args.addition.now in
    let still : is_unmoved (renaming_of v c.args.seat) a.lemma.clause ≡ true =
    ap (is_unmoved (renaming_of v c.args.seat)) (sym c.clause.ensures.clause) ∙ sym c.is_unmoved.ensures ∙ c.if-is_unmoved.true in
    let same : a ≡ joint_form v c.args.seat a = sym (unmoved_form v c.args.seat a c.clause.ensures.lemma still) in
    subst (λ (b : Addition). OnOk c.add_closed.result (c.add_closed.new.self ≡ after_entry c.args.joint.now (inside_entry c.args.joint.now c.args.seat b))) same c.add_closed.ensures.ok

pub returns-then-is_unmoved-clause-told : goal.returns-then-is_unmoved-clause-told
returns-then-is_unmoved-clause-told c =
    let v = c.args.variables.now.variables in
    let a : Addition = c.args.addition.now in
    let still : is_unmoved (renaming_of v c.args.seat) a.lemma.clause ≡ true =
    ap (is_unmoved (renaming_of v c.args.seat)) (sym c.clause.ensures.clause) ∙ sym c.is_unmoved.ensures ∙ c.if-is_unmoved.true in
    let same : a ≡ joint_form v c.args.seat a = sym (unmoved_form v c.args.seat a c.clause.ensures.lemma still) in
    subst (λ (b : Addition). IfOk c.add_closed.result (λ told. told.1 ≡ (if c.args.wanted then Some (with_call (calls.Add b.number a.lemma) (inside_entry c.args.joint.now c.args.seat b)) else None))) same c.add_closed.ensures.told

pub returns-in-Ok-clause-reply : goal.returns-in-Ok-clause-reply
returns-in-Ok-clause-reply c =
    subst (λ (b : Addition). IsReplyBy (λ (told : Added × Option Entry). told.0) c.add_closed-in-Ok.result (inside_reply c.args.joint.now c.args.seat b)) c.in-Ok.ensures c.add_closed-in-Ok.ensures.reply

pub returns-in-Ok-clause-told : goal.returns-in-Ok-clause-told
returns-in-Ok-clause-told c =
    subst (λ (b : Addition). IfOk c.add_closed-in-Ok.result (λ told. told.1 ≡ (if c.args.wanted then Some (with_call (calls.Add b.number c.args.addition.now.lemma) (inside_entry c.args.joint.now c.args.seat b)) else None))) c.in-Ok.ensures c.add_closed-in-Ok.ensures.told

pub returns-in-Ok-clause-ok : goal.returns-in-Ok-clause-ok
returns-in-Ok-clause-ok c =
    subst (λ (b : Addition). OnOk c.add_closed-in-Ok.result (c.add_closed-in-Ok.new.self ≡ after_entry c.args.joint.now (inside_entry c.args.joint.now c.args.seat b))) c.in-Ok.ensures c.add_closed-in-Ok.ensures.ok
