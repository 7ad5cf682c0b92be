use Rattle.std.proofs.Common.{◌≡◌, sym, ◌∙◌, subst, true}
use Rattle.std.specs.Prelude.{ℤ, Option, option_map, ◌↔◌}
use Rattle.lj_clause.specs.Renaming.{literal_image, inverse}
use Rattle.lj_book.specs.Variables.{renaming_of}
use Rattle.lj_book.specs.inner.ReceiptForms.{is_joint_form}
use Rattle.lj_book.specs.inner.VariableTables.{TopVariables}
use Rattle.lj_book.proofs.FormLaws.{lemma_is, lemma_isnt}
use Rattle.lj_book.proofs.variable_table.VariableTable.is_own_lemma.Goals as goal

pub returns-then-not-is_joint_form : goal.returns-then-not-is_joint_form
returns-then-not-is_joint_form c =
    let t : TopVariables = c.args.self.now in
    let form : is_joint_form t.top t.variables c.args.seat c.args.own.now.clause c.args.joint.now.clause ≡ c.is_joint_form.result =
    (λ i. is_joint_form t.top t.variables c.args.seat (sym c.clause.ensures.clause i) (sym (c.view.ensures ∙ c.clause-2.ensures.clause) i)) ∙ sym c.is_joint_form.ensures in
    lemma_isnt t.top t.variables c.args.seat c.next.ensures.variables c.args.own.now c.args.joint.now (form ∙ c.if-not-is_joint_form.true)

pub returns : goal.returns
returns c =
    let t : TopVariables = c.args.self.now in
    let form : is_joint_form t.top t.variables c.args.seat c.args.own.now.clause c.args.joint.now.clause ≡ c.is_joint_form.result =
    (λ i. is_joint_form t.top t.variables c.args.seat (sym c.clause.ensures.clause i) (sym (c.view.ensures ∙ c.clause-2.ensures.clause) i)) ∙ sym c.is_joint_form.ensures in
    let m = inverse (renaming_of t.variables c.args.seat) in
    lemma_is t.top t.variables c.args.seat c.next.ensures.variables c.args.own.now c.args.joint.now c.same_pivot.result (form ∙ c.if-not-is_joint_form.false)
    (subst (λ (o : Option ℤ). (c.same_pivot.result ≡ true) ↔ (o ≡ c.args.own.now.pivot)) (c.own_pivot.ensures ∙ (λ i. option_map (literal_image m) (c.pivot.ensures.pivot i)))
    (subst (λ (o : Option ℤ). (c.same_pivot.result ≡ true) ↔ (c.own_pivot.result ≡ o)) c.pivot-2.ensures.pivot c.same_pivot.ensures))
