-- Images of sets of literals under a function on literals.
use Rattle.std.proofs.Common.{◌≡◌, ◌+◌, ap, refl, sym, ◌∙◌, inl, inr, length, arith}
use Rattle.std.specs.Prelude.{ℤ, pos, neg_ℤ, int_lt, Bool, true, cond, ◌||◌, List, [], ◌∷◌, map, filter}
use Rattle.std.specs.List.{list_any, AllByRecursion}
use Rattle.std.specs.List.Sorted.{IsStrictlySortedBy}
use Rattle.std.specs.Ordering.{eq_by_cmp}
use Rattle.std.specs.declared.cmp.Ordering.TheVariants.{Less, Equal}
use Rattle.std.specs.Cmp.{both_ways, tied_itself}
use Rattle.std.proofs.lemmas.Bool.{false≢true, false_from_ne_true, or_left, or_right, or_cases}
use Rattle.std.proofs.lemmas.List.{length-map}
use Rattle.std.proofs.lemmas.List.Kept.{IsStrictlySortedBy-filter}
use lib.IntN.{neg_ℤ-neg_ℤ}
use Rattle.std.specs.FinMap as fin
use Rattle.lj_clause.specs.Literal.{lit_cmp}
use Rattle.lj_clause.specs.inner.Literal.{lit_cmp_total}
use Rattle.lj_clause.specs.LiteralSet.{LiteralSet, no_literals, holds, with_literal, literals, from_literals, with_negations, negations}
use Rattle.lj_clause.proofs.Literals.{same_literal}
use Rattle.lj_clause.proofs.LiteralSets.{holds-no_literals, holds-literals, holds-from_literals, same_by, held_still, held_now, held_before, literals-from_literals, from_literals-same, literals_rise}
use Rattle.lj_clause.proofs.Among.{among, itself, any_at, any_found, kept, passed}
use Rattle.lj_clause.proofs.TruthLaws.{holds-negations, holds-with_negations}

-- the image of a set
abbrev pub image_by : (ℤ → ℤ) → LiteralSet → LiteralSet
image_by r c = from_literals (map r (literals c))

-- the set has literals that pass the test alone
abbrev pub AllKnown : (ℤ → Bool) → LiteralSet → Type 0
AllKnown known c = (l : ℤ) → holds c l ≡ true → known l ≡ true

-- A function that takes negations to negations, and tells the literals apart that pass the test.
pub record IsRenamer (r : ℤ → ℤ) (known : ℤ → Bool) : Type 0 where
  pub turns : (l : ℤ) → r (neg_ℤ l) ≡ neg_ℤ (r l)
  pub signs : (l : ℤ) → int_lt (pos 0) (r l) ≡ int_lt (pos 0) l
  pub negated : (l : ℤ) → known l ≡ true → known (neg_ℤ l) ≡ true
  pub apart : (l k : ℤ) → known l ≡ true → known k ≡ true → r l ≡ r k → l ≡ k

module _ (r : ℤ → ℤ) where
  any-map : (p : ℤ → Bool) (ls : List ℤ) → list_any p (map r ls) ≡ list_any (λ l. p (r l)) ls
  any-map p [] = refl
  any-map p (l ∷ ls) = ap (λ b. p (r l) || b) (any-map p ls)

  -- the images of a list are those of its literals
  pub among_image : (l : ℤ) (ls : List ℤ) → among l ls ≡ true → among (r l) (map r ls) ≡ true
  among_image l ls m = any-map (eq_by_cmp lit_cmp (r l)) ls ∙ any_at (λ k. eq_by_cmp lit_cmp (r l) (r k)) l ls m (itself (r l))

  pub imaged_among : (q : ℤ) (ls : List ℤ) → among q (map r ls) ≡ true → (l : ℤ) × (among l ls ≡ true) × (q ≡ r l)
  imaged_among q ls m =
      let found = any_found (λ l. eq_by_cmp lit_cmp q (r l)) ls (sym (any-map (eq_by_cmp lit_cmp q) ls) ∙ m) in
      (found.0, found.1, same_literal q (r found.0) found.2)

  -- and so are those of a set
  pub holds_image : (c : LiteralSet) (l : ℤ) → holds c l ≡ true → holds (image_by r c) (r l) ≡ true
  holds_image c l h = holds-from_literals (map r (literals c)) (r l) ∙ among_image l (literals c) (sym (holds-literals c l) ∙ h)

  pub imaged : (c : LiteralSet) (q : ℤ) → holds (image_by r c) q ≡ true → (l : ℤ) × (holds c l ≡ true) × (q ≡ r l)
  imaged c q h =
      let found = imaged_among q (literals c) (sym (holds-from_literals (map r (literals c)) q) ∙ h) in
      (found.0, holds-literals c found.0 ∙ found.1, found.2)

  -- each literal's image is in a set that holds the images of the others
  pub held_by_image : (c s : LiteralSet) → ((l : ℤ) → holds c l ≡ true → holds s (r l) ≡ true) → (q : ℤ) → holds (image_by r c) q ≡ true → holds s q ≡ true
  held_by_image c s each q h = let found = imaged c q h in ap (holds s) found.2 ∙ each found.0 found.1

  pub image-no_literals : image_by r no_literals ≡ no_literals
  image-no_literals = same_by _ _ (held_by_image no_literals no_literals (λ l h. absurd (false≢true (sym (holds-no_literals l) ∙ h)))) (λ q h. absurd (false≢true (sym (holds-no_literals q) ∙ h)))

  pub image-with_literal : (c : LiteralSet) (l : ℤ) → image_by r (with_literal c l) ≡ with_literal (image_by r c) (r l)
  image-with_literal c l =
      same_by _ _
      (held_by_image (with_literal c l) (with_literal (image_by r c) (r l)) (λ k h. elim (held_before c l k h) [
        | inl same ↦ ap (λ x. holds (with_literal (image_by r c) (r l)) (r x)) same ∙ held_now (image_by r c) (r l)
        | inr there ↦ held_still (image_by r c) (r l) (r k) (holds_image c k there)
      ]))
      (λ q h. elim (held_before (image_by r c) (r l) q h) [
        | inl same ↦ ap (holds (image_by r (with_literal c l))) same ∙ holds_image (with_literal c l) l (held_now c l)
        | inr there ↦ held_by_image c (image_by r (with_literal c l)) (λ k g. holds_image (with_literal c l) k (held_still c l k g)) q there
      ])

-- functions that agree on a set make one image of it
pub image-agree : (r s : ℤ → ℤ) (c : LiteralSet) → ((l : ℤ) → holds c l ≡ true → r l ≡ s l) → image_by r c ≡ image_by s c
image-agree r s c same =
    same_by _ _
    (held_by_image r c (image_by s c) (λ l h. ap (holds (image_by s c)) (same l h) ∙ holds_image s c l h))
    (held_by_image s c (image_by r c) (λ l h. ap (holds (image_by r c)) (sym (same l h)) ∙ holds_image r c l h))

-- a set whose literals stay where they are stays
pub image-same : (r : ℤ → ℤ) (c : LiteralSet) → ((l : ℤ) → holds c l ≡ true → r l ≡ l) → image_by r c ≡ c
image-same r c same =
    same_by _ _
    (held_by_image r c c (λ l h. ap (holds c) (same l h) ∙ h))
    (λ q h. ap (holds (image_by r c)) (sym (same q h)) ∙ holds_image r c q h)

-- the image of an image
pub image-image : (r s : ℤ → ℤ) (c : LiteralSet) → image_by s (image_by r c) ≡ image_by (λ l. s (r l)) c
image-image r s c =
    same_by _ _
    (held_by_image s (image_by r c) (image_by (λ l. s (r l)) c) (λ k h. let found = imaged r c k h in ap (λ x. holds (image_by (λ l. s (r l)) c) (s x)) found.2 ∙ holds_image (λ l. s (r l)) c found.0 found.1))
    (held_by_image (λ l. s (r l)) c (image_by s (image_by r c)) (λ l h. holds_image s (image_by r c) (r l) (holds_image r c l h)))

-- more literals of which each has its negation in the other list
with_negations-same : (s : LiteralSet) (xs ys : List ℤ) → ((q : ℤ) → among q xs ≡ among q ys) → with_negations s xs ≡ with_negations s ys
with_negations-same s xs ys same =
    same_by _ _ (λ q h. holds-with_negations s ys q ∙ ap (λ b. b || holds s q) (sym (same (neg_ℤ q))) ∙ sym (holds-with_negations s xs q) ∙ h)
    (λ q h. holds-with_negations s xs q ∙ ap (λ b. b || holds s q) (same (neg_ℤ q)) ∙ sym (holds-with_negations s ys q) ∙ h)

module _ {r : ℤ → ℤ} {known : ℤ → Bool} (is : IsRenamer r known) where
  pub image-negations : (c : LiteralSet) → image_by r (negations c) ≡ negations (image_by r c)
  image-negations c =
      same_by _ _
      (held_by_image r (negations c) (negations (image_by r c)) (λ k h. holds-negations (image_by r c) (r k) ∙ ap (holds (image_by r c)) (sym (is.turns k)) ∙ holds_image r c (neg_ℤ k) (sym (holds-negations c k) ∙ h)))
      (λ q h. let found = imaged r c (neg_ℤ q) (sym (holds-negations (image_by r c) q) ∙ h) in
      ap (holds (image_by r (negations c))) (sym (neg_ℤ-neg_ℤ q) ∙ ap neg_ℤ found.2 ∙ sym (is.turns found.0))
      ∙ holds_image r (negations c) (neg_ℤ found.0) (holds-negations c (neg_ℤ found.0) ∙ ap (holds c) (neg_ℤ-neg_ℤ found.0) ∙ found.1))

  image-more_negations : (s : LiteralSet) (ls : List ℤ) → image_by r (with_negations s ls) ≡ with_negations (image_by r s) (map r ls)
  image-more_negations s [] = refl
  image-more_negations s (l ∷ ls) =
      image-with_literal r (with_negations s ls) (neg_ℤ l)
      ∙ (λ i. with_literal (image-more_negations s ls i) (is.turns l i))

  -- a known literal is held exactly where its image is
  pub holds-image : (c : LiteralSet) (l : ℤ) → AllKnown known c → known l ≡ true → holds (image_by r c) (r l) ≡ holds c l
  holds-image c l all k =
      both_ways _ _
      (λ h. let found = imaged r c (r l) h in ap (holds c) (is.apart l found.0 k (all found.0 found.1) found.2) ∙ found.1)
      (holds_image r c l)

  -- what a test keeps of an image is the image of what a test that agrees keeps
  pub among-filter_image : (d : LiteralSet) (t u : ℤ → Bool) → ((l : ℤ) → holds d l ≡ true → u (r l) ≡ t l)
      → (q : ℤ) → among q (filter u (literals (image_by r d))) ≡ among q (map r (filter t (literals d)))
  among-filter_image d t u agree q =
      both_ways _ _
      (λ m. let parts = passed u q (literals (image_by r d)) m in
      let found = imaged r d q (holds-literals (image_by r d) q ∙ parts.0) in
      ap (λ x. among x (map r (filter t (literals d)))) found.2
      ∙ among_image r found.0 (filter t (literals d)) (kept t found.0 (literals d) (sym (holds-literals d found.0) ∙ found.1) (sym (agree found.0 found.1) ∙ ap u (sym found.2) ∙ parts.1)))
      (λ m. let found = imaged_among r q (filter t (literals d)) m in
      let parts = passed t found.0 (literals d) found.1 in
      let h : holds d found.0 ≡ true = holds-literals d found.0 ∙ parts.0 in
      ap (λ x. among x (filter u (literals (image_by r d)))) found.2
      ∙ kept u (r found.0) (literals (image_by r d)) (sym (holds-literals (image_by r d) (r found.0)) ∙ holds_image r d found.0 h) (agree found.0 h ∙ parts.1))

  -- the same for negations of what a test keeps
  pub image-kept_negations : (s d : LiteralSet) (t u : ℤ → Bool) → ((l : ℤ) → holds d l ≡ true → u (r l) ≡ t l)
      → with_negations (image_by r s) (filter u (literals (image_by r d))) ≡ image_by r (with_negations s (filter t (literals d)))
  image-kept_negations s d t u agree =
      with_negations-same (image_by r s) _ _ (among-filter_image d t u agree) ∙ sym (image-more_negations s (filter t (literals d)))

  below_differs : (l : ℤ) (ls : List ℤ) → AllByRecursion (λ k. lit_cmp l k ≡ Less) ls → among l ls ≡ true → ⊥
  below_differs l [] h m = false≢true m
  below_differs l (k ∷ ls) h m =
      elim (or_cases (eq_by_cmp lit_cmp l k) (among l ls) m) [
        | inl e ↦ (let tied : Less ≡ Equal = sym h.0 ∙ ap (lit_cmp l) (sym (same_literal l k e)) ∙ tied_itself lit_cmp_total l in cc)
        | inr e ↦ below_differs l ls h.1 e
      ]

  -- known literals that rise have as many images
  length-image : (ls : List ℤ) → IsStrictlySortedBy lit_cmp ls → ((l : ℤ) → among l ls ≡ true → known l ≡ true) → fin.len (from_literals (map r ls)) ≡ length ls
  unfolding IsStrictlySortedBy
  length-image [] rise all = fin.len-empty lit_cmp _
  length-image (l ∷ ls) rise all =
      fin.len-insert lit_cmp_total (from_literals (map r ls)) (r l) tt
      ∙ ap (λ b. cond b (fin.len (from_literals (map r ls))) (fin.len (from_literals (map r ls)) + 1)) (false_from_ne_true (holds (from_literals (map r ls)) (r l)) (λ h.
      let found = imaged_among r (r l) ls (sym (holds-from_literals (map r ls) (r l)) ∙ h) in
      below_differs l ls rise.0 (ap (λ x. among x ls) (is.apart l found.0 (all l (or_left (eq_by_cmp lit_cmp l l) (among l ls) (itself l))) (all found.0 (or_right (eq_by_cmp lit_cmp found.0 l) (among found.0 ls) found.1)) found.2) ∙ found.1)))
      ∙ (let n : fin.len (from_literals (map r ls)) ≡ length ls = length-image ls rise.1 (λ k m. all k (or_right (eq_by_cmp lit_cmp k l) (among k ls) m)) in omega arith)

  -- a test keeps as many literals of an image as one that agrees keeps
  pub length-filter_image : (d : LiteralSet) (t u : ℤ → Bool) → AllKnown known d → ((l : ℤ) → holds d l ≡ true → u (r l) ≡ t l)
      → length (filter u (literals (image_by r d))) ≡ length (filter t (literals d))
  length-filter_image d t u all agree =
      ap length (sym (literals-from_literals (filter u (literals (image_by r d))) (IsStrictlySortedBy-filter lit_cmp u (literals (image_by r d)) (literals_rise (image_by r d)))))
      ∙ length-map _ _
      ∙ sym (fin.len-entries (from_literals (filter u (literals (image_by r d)))))
      ∙ ap fin.len (from_literals-same _ _ (among-filter_image d t u agree))
      ∙ length-image (filter t (literals d)) (IsStrictlySortedBy-filter lit_cmp t (literals d) (literals_rise d)) (λ l m. all l (holds-literals d l ∙ (passed t l (literals d) m).0))
