use Rattle.std.proofs.Common.{◌≡◌, ap, sym, ◌∙◌, subst, ℕ, true, false}
use Rattle.std.specs.Prelude.{List, Some, slice_get, ◌↔◌}
use Rattle.std.proofs.lemmas.Bool.{false≢true}
use Rattle.lj_clause.specs.LiteralSet.{LiteralSet}
use Rattle.lj_text.specs.declared.line.Addition.{Addition}
use Rattle.lj_text.specs.declared.step.Step.{Step}
use Rattle.lj_book.specs.declared.entry.Call.TheVariants as calls
use Rattle.lj_book.specs.declared.entry.Entry.{Entry}
use Rattle.lj_book.specs.inner.Records.{entering_entry}
use Rattle.lj_book.specs.inner.VariableTables.{TopVariables}
use Rattle.lj_book.specs.inner.ReceiptForms.{is_joint_form}
use Rattle.lj_book.proofs.EntryLaws.{part_is, part_none, no-part}
use Rattle.lj_book.proofs.OverLaws.{reached_over}
use Rattle.lj_book.proofs.book.Book.is_part_import.Goals as goal

pub returns-then-is_joint_form : goal.returns-then-is_joint_form
returns-then-is_joint_form c =
    let k : ℕ = c.args.place in
    let seat = c.args.seat in
    let own = c.args.own in
    let d : LiteralSet = c.args.clause.now in
    let t : TopVariables = c.self.inside.variables in
    let a : Addition = c.in-Add.addition in
    let joint : c.view-joint.result ≡ a.lemma.clause = c.view-joint.ensures ∙ c.clause.ensures.clause in
    let form : is_joint_form t.top t.variables seat d a.lemma.clause ≡ true = ap (is_joint_form t.top t.variables seat d) (sym joint) ∙ sym c.is_joint_form.ensures ∙ c.if-is_joint_form.true in
    subst (λ (x : Step). (c.is_line.result ≡ true) ↔ (slice_get c.args.self.now.history k ≡ Some (record { seat = seat; call = calls.Import own d; step = Some x }))) (sym c.in-Add.is)
    (part_is c.self.inside.joint t c.args.self.now c.self.invariant c.self.view_is k seat own d a c.is_line.result form
    (subst (λ (es : List Entry). (c.is_line.result ≡ true) ↔ (slice_get es k ≡ Some (entering_entry true seat own a))) c.history.ensures c.is_line.ensures))

pub returns-else-is_joint_form : goal.returns-else-is_joint_form
returns-else-is_joint_form c =
    let k : ℕ = c.args.place in
    let seat = c.args.seat in
    let own = c.args.own in
    let d : LiteralSet = c.args.clause.now in
    let t : TopVariables = c.self.inside.variables in
    let a : Addition = c.in-Add.addition in
    let joint : c.view-joint.result ≡ a.lemma.clause = c.view-joint.ensures ∙ c.clause.ensures.clause in
    let form : is_joint_form t.top t.variables seat d a.lemma.clause ≡ false = ap (is_joint_form t.top t.variables seat d) (sym joint) ∙ sym c.is_joint_form.ensures ∙ c.if-is_joint_form.false in
    subst (λ (x : Step). (c.is_joint_form.result ≡ true) ↔ (slice_get c.args.self.now.history k ≡ Some (record { seat = seat; call = calls.Import own d; step = Some x }))) (sym c.in-Add.is)
    (part_none c.self.inside.joint t c.args.self.now c.self.invariant c.self.view_is k seat own d a c.is_joint_form.result c.if-is_joint_form.false form)

pub returns-in-Delete : goal.returns-in-Delete
returns-in-Delete c = (
  λ e. absurd (false≢true e),
  λ e. absurd (no-part c.args.self.now (reached_over c.self.inside.joint c.self.inside.variables c.args.self.now c.self.invariant c.self.view_is) c.args.place c.args.seat c.args.own c.args.clause.now _
      (subst (λ (x : Step). slice_get c.args.self.now.history c.args.place ≡ Some (record { seat = c.args.seat; call = calls.Import c.args.own c.args.clause.now; step = Some x })) c.in-Delete.is e)),
)
