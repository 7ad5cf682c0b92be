-- When a set of literals holds a variable and its negation.
use Rattle.std.proofs.Common.{◌≡◌, zero, suc, ◌<◌, ap, refl, sym, ◌∙◌, inl, inr, arith}
use Rattle.std.specs.Prelude.{ℤ, pos, negsuc, neg_ℤ, int_lt, Bool, true, false, ◌||◌, ◌&&◌, ◌⊎◌}
use Rattle.std.specs.Ordering.{eq_by_cmp}
use Rattle.std.proofs.lemmas.Bool.{false≢true, and_parts, and_from, or_cases, or_left, or_right, lt-ltb}
use Rattle.std.specs.Cmp.{both_ways}
use lib.IntN.{neg_ℤ-neg_ℤ}
use Rattle.lj_clause.specs.Literal.{lit_cmp, variable_of}
use Rattle.lj_clause.specs.LiteralSet.{LiteralSet, no_literals, holds, with_literal, literals}
use Rattle.lj_clause.specs.Propagation.{is_contradictory}
use Rattle.lj_clause.proofs.Literals.{same_literal}
use Rattle.lj_clause.proofs.LiteralSets.{holds-no_literals, holds-literals, held_still, held_now, held_before}
use Rattle.lj_clause.proofs.Among.{any_at, any_found, itself}
use Rattle.lj_clause.proofs.Images.{AllKnown, IsRenamer, image_by, holds_image, imaged, holds-image}

-- a literal of a set that holds it and its negation
record HoldsBoth (a : LiteralSet) (l : ℤ) : Type 0 where
  positive : int_lt (pos 0) l ≡ true
  assigned : holds a l ≡ true
  negation : holds a (neg_ℤ l) ≡ true

both_assigned : (a : LiteralSet) → is_contradictory a ≡ true → (l : ℤ) × HoldsBoth a l
both_assigned a h =
    let found = any_found (λ l. int_lt (pos 0) l && holds a (neg_ℤ l)) (literals a) h in
    let parts = and_parts (int_lt (pos 0) found.0) (holds a (neg_ℤ found.0)) found.2 in
    (found.0, record { positive = parts.0; assigned = holds-literals a found.0 ∙ found.1; negation = parts.1 })

contradictory_by : (a : LiteralSet) (l : ℤ) → HoldsBoth a l → is_contradictory a ≡ true
contradictory_by a l h =
    any_at (λ l. int_lt (pos 0) l && holds a (neg_ℤ l)) l (literals a) (sym (holds-literals a l) ∙ h.assigned) (and_from _ _ h.positive h.negation)

-- of a literal and its negation one is positive
one_positive : (l : ℤ) → 0 < variable_of l → (int_lt (pos 0) l ≡ true) ⊎ (int_lt (pos 0) (neg_ℤ l) ≡ true)
one_positive (pos zero) h = absurd (omega arith)
one_positive (pos (suc n)) h = inl (lt-ltb 0 (suc n) (omega arith))
one_positive (negsuc n) h = inr (lt-ltb 0 (suc n) (omega arith))

positive_not_negation : (l : ℤ) → int_lt (pos 0) l ≡ true → eq_by_cmp lit_cmp (neg_ℤ l) l ≡ true → false ≡ true
positive_not_negation (pos zero) h e = h
positive_not_negation (pos (suc n)) h e = let same : negsuc n ≡ pos (suc n) = same_literal (negsuc n) (pos (suc n)) e in cc
positive_not_negation (negsuc n) h e = h

more_contradictory : (a : LiteralSet) (l : ℤ) → is_contradictory (with_literal a l) ≡ true → (is_contradictory a || holds a (neg_ℤ l)) ≡ true
more_contradictory a l h =
    let found = both_assigned (with_literal a l) h in
    elim (held_before a l found.0 found.1.assigned) [
      | inl same ↦ or_right (is_contradictory a) (holds a (neg_ℤ l)) (elim (held_before a l (neg_ℤ found.0) found.1.negation) [
        | inl e ↦ absurd (false≢true (positive_not_negation found.0 found.1.positive (ap (eq_by_cmp lit_cmp (neg_ℤ found.0)) (same ∙ sym e) ∙ itself (neg_ℤ found.0))))
        | inr there ↦ ap (λ k. holds a (neg_ℤ k)) (sym same) ∙ there
      ])
      | inr assigned ↦ elim (held_before a l (neg_ℤ found.0) found.1.negation) [
        | inl e ↦ or_right (is_contradictory a) (holds a (neg_ℤ l)) (ap (λ k. holds a (neg_ℤ k)) (sym e) ∙ ap (holds a) (neg_ℤ-neg_ℤ found.0) ∙ assigned)
        | inr there ↦ or_left (is_contradictory a) (holds a (neg_ℤ l)) (contradictory_by a found.0 (record { positive = found.1.positive; assigned = assigned; negation = there }))
      ]
    ]

still_contradictory : (a : LiteralSet) (l : ℤ) → 0 < variable_of l → (is_contradictory a || holds a (neg_ℤ l)) ≡ true → is_contradictory (with_literal a l) ≡ true
still_contradictory a l nonzero h =
    elim (or_cases (is_contradictory a) (holds a (neg_ℤ l)) h) [
      | inl before ↦ let found = both_assigned a before in
          contradictory_by (with_literal a l) found.0 (record { positive = found.1.positive; assigned = held_still a l found.0 found.1.assigned; negation = held_still a l (neg_ℤ found.0) found.1.negation })
      | inr met ↦ elim (one_positive l nonzero) [
        | inl up ↦ contradictory_by (with_literal a l) l (record { positive = up; assigned = held_now a l; negation = held_still a l (neg_ℤ l) met })
        | inr down ↦ contradictory_by (with_literal a l) (neg_ℤ l) (record { positive = down; assigned = held_still a l (neg_ℤ l) met; negation = ap (holds (with_literal a l)) (neg_ℤ-neg_ℤ l) ∙ held_now a l })
      ]
    ]

-- one literal more makes a set contradictory exactly where it was so or holds the negation
pub is_contradictory-with_literal : (a : LiteralSet) (l : ℤ) → 0 < variable_of l → is_contradictory (with_literal a l) ≡ (is_contradictory a || holds a (neg_ℤ l))
is_contradictory-with_literal a l nonzero = both_ways _ _ (more_contradictory a l) (still_contradictory a l nonzero)

pub is_contradictory-no_literals : is_contradictory no_literals ≡ false
is_contradictory-no_literals = both_ways _ _ (λ h. let found = both_assigned no_literals h in sym (holds-no_literals found.0) ∙ found.1.assigned) (λ h. absurd (false≢true h))

-- and not where its negation isn't there
pub is_contradictory-unopposed : (a : LiteralSet) (l : ℤ) → 0 < variable_of l → holds a (neg_ℤ l) ≡ false → is_contradictory (with_literal a l) ≡ is_contradictory a
is_contradictory-unopposed a l nonzero e = is_contradictory-with_literal a l nonzero ∙ ap (λ b. is_contradictory a || b) e ∙ or_false (is_contradictory a)
  where
    or_false : (b : Bool) → (b || false) ≡ b
    or_false true = refl
    or_false false = refl

-- the image of a set whose literals are told apart is contradictory exactly where the set is
module _ {r : ℤ → ℤ} {known : ℤ → Bool} (is : IsRenamer r known) (a : LiteralSet) (all : AllKnown known a) where
  pub is_contradictory-image : is_contradictory (image_by r a) ≡ is_contradictory a
  is_contradictory-image =
      both_ways _ _
      (λ h. let both = both_assigned (image_by r a) h in
      let found = imaged r a both.0 both.1.assigned in
      contradictory_by a found.0 (record {
        positive = sym (is.signs found.0) ∙ ap (int_lt (pos 0)) (sym found.2) ∙ both.1.positive;
        assigned = found.1;
        negation = sym (holds-image is a (neg_ℤ found.0) all (is.negated found.0 (all found.0 found.1))) ∙ ap (holds (image_by r a)) (is.turns found.0 ∙ ap neg_ℤ (sym found.2)) ∙ both.1.negation;
      }))
      (λ h. let both = both_assigned a h in
      contradictory_by (image_by r a) (r both.0) (record {
        positive = is.signs both.0 ∙ both.1.positive;
        assigned = holds_image r a both.0 both.1.assigned;
        negation = ap (holds (image_by r a)) (sym (is.turns both.0)) ∙ holds_image r a (neg_ℤ both.0) both.1.negation;
      }))
