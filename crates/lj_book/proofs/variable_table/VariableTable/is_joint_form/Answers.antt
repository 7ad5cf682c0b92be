use Rattle.std.proofs.Common.{◌≡◌, refl, sym, ◌∙◌, true, false}
use Rattle.std.specs.List.{list_all}
use Rattle.lj_clause.specs.LiteralSet.{holds, literals}
use Rattle.lj_clause.specs.Renaming.{literal_image, inverse}
use Rattle.lj_book.specs.Variables.{renaming_of}
use Rattle.lj_book.proofs.Parts.{same_test}
use Rattle.lj_book.proofs.ReceiptForms.{within_form, forms_found}
use Rattle.lj_book.proofs.variable_table.VariableTable.is_joint_form.Goals as goal

pub returns-then-is_within : goal.returns-then-is_within
returns-then-is_within c =
    same_test c.same.result c.args.clause.now c.args.joint.now c.same.ensures
    ∙ sym (within_form c.args.self.now.top c.args.self.now.variables c.args.seat c.args.clause.now c.args.joint.now c.is_within.ensures.variables (sym c.is_within.ensures.within ∙ c.if-is_within.true))

pub returns-then-not-is_own : goal.returns-then-not-is_own
returns-then-not-is_own c =
    let t = c.args.self.now in
    let m = renaming_of t.variables c.args.seat in
    let named = sym c.is_named.ensures ∙ c.if-not-is_named.false in
    forms_found t.top t.variables c.args.seat c.args.clause.now c.args.joint.now c.is_within.ensures.variables true false
    (list_all (λ l. holds c.args.joint.now (literal_image m l)) (literals c.args.clause.now)) (list_all (λ k. holds c.args.clause.now (literal_image (inverse m) k)) (literals c.args.joint.now))
    named (sym c.is_own.ensures ∙ c.if-not-is_own.true) refl refl

pub returns-then-forth : goal.returns-then-forth
returns-then-forth c =
    let t = c.args.self.now in
    let m = renaming_of t.variables c.args.seat in
    let named = sym c.is_named.ensures ∙ c.if-not-is_named.false in
    let own = sym c.is_own.ensures ∙ c.if-not-is_own.false in
    let forth : list_all (λ l. holds c.args.joint.now (literal_image m l)) (literals c.args.clause.now) ≡ c.all_held-forth.result =
    (λ i. list_all (λ l. holds c.args.joint.now (literal_image (renaming_of (sym c.to_joint.ensures.0 i).variables (sym c.to_joint.ensures.1 i)) l)) (sym c.lits.ensures i)) ∙ sym c.all_held-forth.ensures in
    let back : list_all (λ k. holds c.args.clause.now (literal_image (inverse m) k)) (literals c.args.joint.now) ≡ c.all_held-back.result =
    (λ i. list_all (λ k. holds (sym c.view.ensures i) (literal_image (inverse (renaming_of (sym c.to_own.ensures.0 i).variables (sym c.to_own.ensures.1 i))) k)) (sym c.lits-2.ensures i)) ∙ sym c.all_held-back.ensures in
    forms_found t.top t.variables c.args.seat c.args.clause.now c.args.joint.now c.is_within.ensures.variables true true true c.all_held-back.result named own (forth ∙ c.if-forth.true) back

pub returns-else-forth : goal.returns-else-forth
returns-else-forth c =
    let t = c.args.self.now in
    let m = renaming_of t.variables c.args.seat in
    let named = sym c.is_named.ensures ∙ c.if-not-is_named.false in
    let own = sym c.is_own.ensures ∙ c.if-not-is_own.false in
    let forth : list_all (λ l. holds c.args.joint.now (literal_image m l)) (literals c.args.clause.now) ≡ c.all_held-forth.result =
    (λ i. list_all (λ l. holds c.args.joint.now (literal_image (renaming_of (sym c.to_joint.ensures.0 i).variables (sym c.to_joint.ensures.1 i)) l)) (sym c.lits.ensures i)) ∙ sym c.all_held-forth.ensures in
    let back : list_all (λ k. holds c.args.clause.now (literal_image (inverse m) k)) (literals c.args.joint.now) ≡ c.all_held-back.result =
    (λ i. list_all (λ k. holds (sym c.view.ensures i) (literal_image (inverse (renaming_of (sym c.to_own.ensures.0 i).variables (sym c.to_own.ensures.1 i))) k)) (sym c.lits-2.ensures i)) ∙ sym c.all_held-back.ensures in
    c.if-forth.false ∙ forms_found t.top t.variables c.args.seat c.args.clause.now c.args.joint.now c.is_within.ensures.variables true true false c.all_held-back.result named own (forth ∙ c.if-forth.false) back
