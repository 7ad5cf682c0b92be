-- Where the groups of candidates stand.
use Rattle.std.proofs.Common.{◌≡◌, ap, sym, subst, ◌∙◌, ℕ, ◌+◌, ◌<◌, ◌≤◌, true, false, inl, inr, arith, add-one, get_or, drop, length}
use Rattle.std.proofs.lemmas.List.{drop_all, get_or-replicate}
use Rattle.std.proofs.lemmas.Bool.{cases_order}
use Rattle.std.proofs.lemmas.Bool.Decides.{nat_tests}
use Rattle.std.proofs.lemmas.Map.Keys.{below_from_sorted}
use Rattle.std.specs.Prelude.{List, ◌⊎◌, ◌≢◌, ◌==◌, replicate}
use Rattle.std.specs.List.Sorted.{IsStrictlySortedBy}
use Rattle.std.specs.Ordering.{nat_cmp}
use Rattle.lj_clause.specs.Rat.{NamedGroup, group_of}
use Rattle.lj_hint.specs.inner.Groups.{group_in, group_at, before}
use Rattle.lj_hint.proofs.RatTests.{group_placed}

-- For each candidate stands where its first group is among those from an index on.
abbrev pub ArePlacedFrom : List NamedGroup → List ℕ → List ℕ → ℕ → Type 0
ArePlacedFrom gs cs ps k = (i : ℕ) → i < length cs
    → group_at gs (before (get_or ps i 0)) ≡ group_of (get_or cs i 0) (drop k gs)

different : (a b : ℕ) → (a < b) ⊎ (b < a) → (a == b) ≡ false
different a b (inl lt) = grind (arith, nat_tests)
different a b (inr lt) = grind (arith, nat_tests)

same : (a b : ℕ) → a ≡ b → (a == b) ≡ true
same a b e = grind (arith, nat_tests)

-- those of two places differ
apart : (cs : List ℕ) (i j : ℕ) → IsStrictlySortedBy nat_cmp cs → i < length cs → j < length cs → (i < j) ⊎ (j < i) → (get_or cs i 0 == get_or cs j 0) ≡ false
apart cs i j sorted in_i in_j (inl lt) = different _ _ (inl (below_from_sorted cs i j 0 sorted lt in_j))
apart cs i j sorted in_i in_j (inr lt) = different _ _ (inr (below_from_sorted cs j i 0 sorted lt in_i))

elsewhere : (i j : ℕ) → (j < i) ⊎ (i < j) → j ≡ i → ⊥
elsewhere i j (inl lt) e = omega arith
elsewhere i j (inr lt) e = omega arith

turned : (i j : ℕ) → (j < i) ⊎ (i < j) → (i < j) ⊎ (j < i)
turned i j (inl lt) = inr lt
turned i j (inr lt) = inl lt

-- a group more, in front of those that are placed, whose candidate stands at a place
pub placed_at : (gs : List NamedGroup) (cs ps others : List ℕ) (k i : ℕ) → k < length gs → IsStrictlySortedBy nat_cmp cs → i < length cs → get_or cs i 0 ≡ (group_in gs k).candidate → get_or others i 0 ≡ k + 1 → ((j : ℕ) → j ≢ i → get_or others j 0 ≡ get_or ps j 0) → ArePlacedFrom gs cs ps (k + 1) → ArePlacedFrom gs cs others k
placed_at gs cs ps others k i within sorted in_i is at kept placed j in_j = by_order (cases_order j i)
  where
    by_order : (j ≡ i) ⊎ ((j < i) ⊎ (i < j)) → group_at gs (before (get_or others j 0)) ≡ group_of (get_or cs j 0) (drop k gs)
    by_order (inl e) =
        subst (λ (j : ℕ). group_at gs (before (get_or others j 0)) ≡ group_of (get_or cs j 0) (drop k gs)) (sym e)
        (ap (λ (n : ℕ). group_at gs (before n)) (at ∙ add-one k)
        ∙ group_placed gs k (get_or cs i 0) (before (get_or ps i 0)) true within (sym (same _ _ (sym is))) (placed i in_i))
    by_order (inr either) =
        ap (λ (n : ℕ). group_at gs (before n)) (kept j (elsewhere i j either))
        ∙ group_placed gs k (get_or cs j 0) (before (get_or ps j 0)) false within (sym (ap (λ (n : ℕ). n == get_or cs j 0) (sym is) ∙ apart cs i j sorted in_i in_j (turned i j either))) (placed j in_j)

-- a group more, whose candidate isn't among these
pub placed_nowhere : (gs : List NamedGroup) (cs ps : List ℕ) (k i : ℕ) → k < length gs → ((j : ℕ) → j < i → get_or cs j 0 < (group_in gs k).candidate) → ((j : ℕ) → i ≤ j → j < length cs → (group_in gs k).candidate < get_or cs j 0) → ArePlacedFrom gs cs ps (k + 1) → ArePlacedFrom gs cs ps k
placed_nowhere gs cs ps k i within below above placed j in_j =
    group_placed gs k (get_or cs j 0) (before (get_or ps j 0)) false within (sym (different _ _ (by_side (cases_order j i)))) (placed j in_j)
  where
    by_side : (j ≡ i) ⊎ ((j < i) ⊎ (i < j)) → ((group_in gs k).candidate < get_or cs j 0) ⊎ (get_or cs j 0 < (group_in gs k).candidate)
    by_side (inl e) = inl (above j (omega arith) in_j)
    by_side (inr (inl lt)) = inr (below j lt)
    by_side (inr (inr lt)) = inl (above j (omega arith) in_j)

-- numbers that rise don't fall
pub not_falling : (cs : List ℕ) → IsStrictlySortedBy nat_cmp cs → (i j : ℕ) → i ≤ j → j < length cs → get_or cs i 0 ≤ get_or cs j 0
not_falling cs sorted i j le in_j = by_order (cases_order i j)
  where
    by_order : (i ≡ j) ⊎ ((i < j) ⊎ (j < i)) → get_or cs i 0 ≤ get_or cs j 0
    by_order (inl e) = subst (λ (j : ℕ). get_or cs i 0 ≤ get_or cs j 0) e (omega arith)
    by_order (inr (inl lt)) = omega (arith, below_from_sorted cs i j 0 sorted lt in_j)
    by_order (inr (inr lt)) = absurd (omega arith)
