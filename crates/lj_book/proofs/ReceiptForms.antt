-- How the code finds that a seat's clause is a joint one.
use Rattle.std.proofs.Common.{◌≡◌, ap, refl, sym, ◌∙◌, subst, inl, inr, ℕ, Bool, true}
use Rattle.std.specs.Prelude.{ℤ, ◌&&◌, List, [], ◌∷◌}
use Rattle.std.specs.List.{list_all}
use Rattle.std.specs.Ordering.{eq_by_cmp}
use Rattle.std.specs.Cmp.{both_ways}
use Rattle.std.proofs.lemmas.Bool.{false≢true, and_parts, and_from, or_cases, or_left, or_right}
use Rattle.lj_clause.specs.Literal.{lit_cmp}
use Rattle.lj_clause.specs.LiteralSet.{LiteralSet, holds, literals}
use Rattle.lj_clause.specs.ClauseMap.{names_up_to}
use Rattle.lj_clause.specs.Renaming.{Renaming, literal_image, image, inverse, is_named, IsOneToOne}
use Rattle.lj_clause.proofs.LiteralSets.{same_set, holds-literals}
use Rattle.lj_clause.proofs.Among.{among, itself}
use Rattle.lj_clause.proofs.Literals.{same_literal}
use Rattle.lj_clause.proofs.Images.{holds_image, held_by_image}
use Rattle.lj_clause.proofs.Renaming.{renaming_laws}
use Rattle.lj_hint.specs.declared.pair.Pair.{Pair}
use Rattle.lj_book.specs.Lookup.{is_same}
use Rattle.lj_book.specs.Variables.{Variables, IsVariables, renaming_of, is_own}
use Rattle.lj_book.specs.inner.ReceiptForms.{is_joint_form}
use Rattle.lj_book.proofs.Parts.{same_clauses, same_itself}
use Rattle.lj_book.proofs.VariableLaws.{part_of_itself}
use Rattle.lj_book.proofs.OwnHoldings.{pair_back}

all_pass : (p : ℤ → Bool) (ls : List ℤ) → list_all p ls ≡ true → (l : ℤ) → among l ls ≡ true → p l ≡ true
all_pass p [] all l m = absurd (false≢true m)
all_pass p (k ∷ ls) all l m =
    let parts = and_parts (p k) (list_all p ls) all in
    elim (or_cases (eq_by_cmp lit_cmp l k) (among l ls) m) [
      | inl e ↦ ap p (same_literal l k e) ∙ parts.0
      | inr e ↦ all_pass p ls parts.1 l e
    ]

pass_all : (p : ℤ → Bool) (ls : List ℤ) → ((l : ℤ) → among l ls ≡ true → p l ≡ true) → list_all p ls ≡ true
pass_all p [] each = refl
pass_all p (k ∷ ls) each =
    and_from (p k) (list_all p ls) (each k (or_left (eq_by_cmp lit_cmp k k) (among k ls) (itself k)))
    (pass_all p ls (λ l m. each l (or_right (eq_by_cmp lit_cmp l k) (among l ls) m)))

-- what the code tests
abbrev pub tested_forms : ℕ → Renaming → LiteralSet → LiteralSet → Bool
tested_forms top m c d =
    is_named top m c && (is_named top (inverse m) d
    && (list_all (λ l. holds d (literal_image m l)) (literals c) && list_all (λ k. holds c (literal_image (inverse m) k)) (literals d)))

module _ (top : ℕ) (m : Renaming) (one : IsOneToOne top m) (c d : LiteralSet) where
  forth : tested_forms top m c d ≡ true → (is_named top m c && is_same (image m c) d) ≡ true
  forth h =
      let first = and_parts (is_named top m c) _ h in
      let second = and_parts (is_named top (inverse m) d) _ first.1 in
      let third = and_parts (list_all (λ l. holds d (literal_image m l)) (literals c)) _ second.1 in
      let there : (q : ℤ) → holds (image m c) q ≡ true → holds d q ≡ true =
      held_by_image (literal_image m) c d (λ l is. all_pass (λ k. holds d (literal_image m k)) (literals c) third.0 l (sym (holds-literals c l) ∙ is)) in
      let back : (q : ℤ) → holds (image (inverse m) d) q ≡ true → holds c q ≡ true =
      held_by_image (literal_image (inverse m)) d c (λ l is. all_pass (λ k. holds c (literal_image (inverse m) k)) (literals d) third.1 l (sym (holds-literals d l) ∙ is)) in
      let again : image m (image (inverse m) d) ≡ d = ap (λ (p : Pair). p.clause) (pair_back top m m one (part_of_itself m) one (record { joint = 0; clause = d }) second.0).0 in
      let from : (q : ℤ) → holds d q ≡ true → holds (image m c) q ≡ true = λ q is.
      held_by_image (literal_image m) (image (inverse m) d) (image m c) (λ l has. holds_image (literal_image m) c l (back l has)) q (ap (λ (e : LiteralSet). holds e q) again ∙ is) in
      let same : image m c ≡ d = same_set (image m c) d (λ q. both_ways (holds (image m c) q) (holds d q) (there q) (from q)) in
      and_from (is_named top m c) (is_same (image m c) d) first.0 (ap (is_same (image m c)) (sym same) ∙ same_itself (image m c))

  when_same : is_named top m c ≡ true → (e : LiteralSet) → image m c ≡ e → tested_forms top m c e ≡ true
  when_same named e is = subst (λ (e : LiteralSet). tested_forms top m c e ≡ true) is (
      and_from (is_named top m c) _ named
      (and_from (is_named top (inverse m) (image m c)) _ (renaming_laws.named_back top m c one named)
      (and_from (list_all (λ l. holds (image m c) (literal_image m l)) (literals c)) _
      (pass_all (λ l. holds (image m c) (literal_image m l)) (literals c) (λ l is. holds_image (literal_image m) c l (holds-literals c l ∙ is)))
      (pass_all (λ k. holds c (literal_image (inverse m) k)) (literals (image m c)) (λ k is.
      ap (λ (e : LiteralSet). holds e (literal_image (inverse m) k)) (sym (renaming_laws.given_back top m c one named))
      ∙ holds_image (literal_image (inverse m)) (image m c) k (holds-literals (image m c) k ∙ is))))))

  back : (is_named top m c && is_same (image m c) d) ≡ true → tested_forms top m c d ≡ true
  back h =
      let parts = and_parts (is_named top m c) (is_same (image m c) d) h in
      when_same parts.0 d (same_clauses (image m c) d parts.1)

  pub forms_alike : tested_forms top m c d ≡ (is_named top m c && is_same (image m c) d)
  forms_alike = both_ways (tested_forms top m c d) (is_named top m c && is_same (image m c) d) forth back

-- what the code finds by its tests
pub forms_found : (top : ℕ) (v : Variables) (seat : ℕ) (c d : LiteralSet) → IsVariables top v → (n o p q : Bool) → is_named top (renaming_of v seat) c ≡ n → is_own top v seat d ≡ o
    → list_all (λ l. holds d (literal_image (renaming_of v seat) l)) (literals c) ≡ p → list_all (λ k. holds c (literal_image (inverse (renaming_of v seat)) k)) (literals d) ≡ q
    → (n && (o && (p && q))) ≡ is_joint_form top v seat c d
forms_found top v seat c d rules n o p q e f g h = (λ i. sym e i && (sym f i && (sym g i && sym h i))) ∙ forms_alike top (renaming_of v seat) (rules.one_to_one seat) c d

-- a clause without a variable above top is its own joint form
pub within_form : (top : ℕ) (v : Variables) (seat : ℕ) (c d : LiteralSet) → IsVariables top v → names_up_to top c ≡ true → is_joint_form top v seat c d ≡ is_same c d
within_form top v seat c d rules within =
    let still = renaming_laws.unmoved top (renaming_of v seat) c (rules.one_to_one seat) within in
    (λ i. still.0 i && is_same (still.1 i) d)
