use Rattle.std.proofs.Common.{◌≤◌, ℕ, ap, sym, ◌∙◌, take, length, arith}
use Rattle.std.specs.Prelude.{ℤ, List, [], ◌∷◌, ◌++◌, Option}
use Rattle.std.proofs.lemmas.List.{take_more}
use Rattle.lj_clause.specs.LiteralSet.{literals}
use Rattle.lj_clause.specs.Renaming.{Renaming}
use Rattle.lj_book.specs.Variables.{renaming_of}
use Rattle.lj_book.specs.inner.Limits.{known_images, led_by}
use Rattle.lj_book.proofs.PlayLaws.{take_all}
use Rattle.lj_book.proofs.JointFormLaws.{known_more}
use Rattle.lj_book.proofs.joint_forms.known_lits.Goals as goal

pub loop-lit-init : goal.loop-lit-init
loop-lit-init c =
    let top : ℕ = c.args.variables.now.top in
    let m : Renaming = renaming_of c.args.variables.now.variables c.args.seat in
    c.in_ok-lits.ensures ∙ ap (λ (o : Option ℤ). known_images top m (led_by o [])) c.pivot.ensures.pivot

pub loop-lit-preserved : goal.loop-lit-preserved
loop-lit-preserved c =
    let top : ℕ = c.args.variables.now.top in
    let m : Renaming = renaming_of c.args.variables.now.variables c.args.seat in
    let o : Option ℤ = c.args.lemma.now.pivot in
    let ls : List ℤ = c.lits-lit-items.result.now in
    let k : ℕ = c.loop-lit.lit-index in
    c.in_ok-push_known.ensures
    ∙ ap (λ (xs : List ℤ). xs ++ known_images top m (c.lit-item.result ∷ [])) c.loop-lit.invariant
    ∙ sym (known_more top m o (take k ls) c.lit-item.result)
    ∙ ap (λ (xs : List ℤ). known_images top m (led_by o xs)) (sym (take_more ls k c.lit-item.result c.loop-lit-test.true ∙ ap (λ (e : ℤ). take k ls ++ e ∷ []) (sym c.lit-item.is)))

pub returns : goal.returns
returns c =
    let top : ℕ = c.args.variables.now.top in
    let m : Renaming = renaming_of c.args.variables.now.variables c.args.seat in
    let o : Option ℤ = c.args.lemma.now.pivot in
    let ls : List ℤ = c.lits-lit-items.result.now in
    let all : length ls ≤ c.loop-lit.lit-index = omega arith in
    c.loop-lit.invariant ∙ ap (λ (xs : List ℤ). known_images top m (led_by o xs)) (take_all ls c.loop-lit.lit-index all ∙ c.lits-lit-items.ensures ∙ ap literals c.clause.ensures.clause)
