-- Stamps in a list and in a tree.
use Rattle.std.proofs.Common.{◌≡◌, ap, refl, sym, ◌∙◌, ℕ, ◌<◌, ◌≤◌, true, false, cond, arith, length}
use Rattle.std.specs.Prelude.{◌==◌, nat_lt, List, [], slice_index, slice_set, if◌then◌else◌, Option, unwrap_or}
use Rattle.std.specs.Map.{lookup}
use Rattle.std.specs.BTreeMap.{is_at}
use Rattle.std.specs.Ordering.{nat_cmp}
use Rattle.std.specs.Cmp.{unsigned_tied}
use Rattle.std.proofs.lemmas.Bool.{eqb-true, eqb-false}
use Rattle.std.proofs.lemmas.Bool.Decides.{nat_tests}
use Rattle.std.proofs.lemmas.Grind.{get_or-set_at}
use Rattle.std.proofs.lemmas.List.{get_or-set_other, get_or_past, length-set}
use Rattle.lj_hint.specs.inner.Stamps.{Stamped, stamp_at}

below : (a b : ℕ) → nat_lt a b ≡ true → a < b
below a b e = grind (arith, nat_tests)

above : (a b : ℕ) → nat_lt a b ≡ false → b ≤ a
above a b e = grind (arith, nat_tests)

is_below : (a b : ℕ) → a < b → nat_lt a b ≡ true
is_below a b lt = grind (arith, nat_tests)

is_above : (a b : ℕ) → b ≤ a → nat_lt a b ≡ false
is_above a b le = grind (arith, nat_tests)

apart : (q index n : ℕ) → n ≤ index → q < n → (q == index) ≡ false
apart q index n le lt = grind (arith, nat_tests)

-- the stamp at a place in a tree
abbrev found : List (ℕ × ℕ) → ℕ → ℕ
found entries q = unwrap_or (lookup (is_at (nat_cmp q)) entries) 0

-- the stamp at a place in the list
pub dense_stamp : (stamps : Stamped) (index : ℕ) → index < length stamps.0 → stamp_at stamps index ≡ slice_index stamps.0 index
unfolding stamp_at
dense_stamp stamps index lt = ap (λ b. if b then slice_index stamps.0 index else found stamps.1 index) (is_below index (length stamps.0) lt)

-- the stamp beyond it
sparse_stamp : (stamps : Stamped) (index : ℕ) → length stamps.0 ≤ index → stamp_at stamps index ≡ found stamps.1 index
unfolding stamp_at
sparse_stamp stamps index le = ap (λ b. if b then slice_index stamps.0 index else found stamps.1 index) (is_above index (length stamps.0) le)

-- what is looked up there
pub found_sparse : (dense : List ℕ) (sparse : List (ℕ × ℕ)) (index : ℕ) (o : Option ℕ) → length dense ≤ index → o ≡ lookup (is_at (nat_cmp index)) sparse → unwrap_or o 0 ≡ stamp_at (dense, sparse) index
found_sparse dense sparse index o le is = ap (λ (o : Option ℕ). unwrap_or o 0) is ∙ sym (sparse_stamp (dense, sparse) index le)

-- what holds in the list and beyond it, holds everywhere
for_all : (stamps : Stamped) (P : ℕ → ℕ → Type 0) → ((q : ℕ) → q < length stamps.0 → P q (slice_index stamps.0 q)) → ((q : ℕ) → length stamps.0 ≤ q → P q (found stamps.1 q)) → (q : ℕ) → P q (stamp_at stamps q)
unfolding stamp_at
for_all stamps P dense sparse q =
    elim (nat_lt q (length stamps.0)) as (λ b. nat_lt q (length stamps.0) ≡ b → P q (if b then slice_index stamps.0 q else found stamps.1 q)) [
      | true ↦ λ e. dense q (below q (length stamps.0) e)
      | false ↦ λ e. sparse q (above q (length stamps.0) e)
    ] refl

nothing : (entries : List (ℕ × ℕ)) (q : ℕ) → entries ≡ [] → found entries q ≡ 0
nothing entries q none = ap (λ (es : List (ℕ × ℕ)). found es q) none

-- no stamp anywhere
pub none_stamped : (stamps : Stamped) → stamps.0 ≡ [] → stamps.1 ≡ [] → (q : ℕ) → stamp_at stamps q ≡ 0
none_stamped stamps dense sparse = for_all stamps (λ q n. n ≡ 0) (λ q lt. ap (λ (xs : List ℕ). slice_index xs q) dense) (λ q le. nothing stamps.1 q sparse)

-- none beyond the list any more
pub none_sparse : (stamps others : Stamped) → ((q : ℕ) → slice_index others.0 q ≡ slice_index stamps.0 q) → others.1 ≡ [] → (q : ℕ) → stamp_at others q ≤ stamp_at stamps q
none_sparse stamps others same none = for_all others (λ q n. n ≤ stamp_at stamps q)
    (λ q lt. for_all stamps (λ q n. slice_index others.0 q ≤ n)
    (λ q lt. let e = same q in omega arith)
    (λ q le. let e = same q in let past = get_or_past stamps.0 q 0 le in omega arith) q)
    (λ q le. let e = nothing others.1 q none in omega arith)

-- a stamp is set in the list
pub dense_set : (stamps : Stamped) (index v : ℕ) → index < length stamps.0 → (q : ℕ) → stamp_at (slice_set stamps.0 index v, stamps.1) q ≡ (if q == index then v else stamp_at stamps q)
dense_set stamps index v lt = for_all (slice_set stamps.0 index v, stamps.1) (λ q n. n ≡ (if q == index then v else stamp_at stamps q))
    (λ q here. elim (q == index) as (λ b. (q == index) ≡ b → slice_index (slice_set stamps.0 index v) q ≡ cond b v (stamp_at stamps q)) [
      | true ↦ λ e. get_or-set_at stamps.0 index q v 0 (eqb-true q index e) lt
      | false ↦ λ e. get_or-set_other stamps.0 index q v 0 (eqb-false q index e) ∙ sym (dense_stamp stamps q (omega (arith, length-set stamps.0 index v, here)))
    ] refl)
    (λ q there.
    let le : length stamps.0 ≤ q = omega (arith, length-set stamps.0 index v, there) in
    sym (sparse_stamp stamps q le) ∙ ap (λ b. cond b v (stamp_at stamps q)) (sym (other q index (length stamps.0) lt le)))
  where
    other : (q index n : ℕ) → index < n → n ≤ q → (q == index) ≡ false
    other q index n lt le = grind (arith, nat_tests)

-- the value at a key of the tree is set, or taken out
pub sparse_set : (stamps others : Stamped) (index : ℕ) (o : Option ℕ) → others.0 ≡ stamps.0 → length stamps.0 ≤ index → ((q : ℕ) → lookup (is_at (nat_cmp q)) others.1 ≡ cond (is_at (nat_cmp index) q) o (lookup (is_at (nat_cmp q)) stamps.1)) → (q : ℕ) → stamp_at others q ≡ (if q == index then unwrap_or o 0 else stamp_at stamps q)
sparse_set stamps others index o same le h = for_all others (λ q n. n ≡ (if q == index then unwrap_or o 0 else stamp_at stamps q))
    (λ q here.
    let lt : q < length stamps.0 = omega (arith, ap length same, here) in
    ap (λ (xs : List ℕ). slice_index xs q) same
    ∙ sym (dense_stamp stamps q lt)
    ∙ ap (λ b. cond b (unwrap_or o 0) (stamp_at stamps q)) (sym (apart q index (length stamps.0) le lt)))
    (λ q there.
    ap (λ p. unwrap_or p 0) (h q ∙ ap (λ b. cond b o (lookup (is_at (nat_cmp q)) stamps.1)) (tied index q))
    ∙ elim (q == index) as (λ b. unwrap_or (cond b o (lookup (is_at (nat_cmp q)) stamps.1)) 0 ≡ cond b (unwrap_or o 0) (stamp_at stamps q)) [
      | true ↦ refl
      | false ↦ sym (sparse_stamp stamps q (omega (arith, ap length same, there)))
    ])
  where
    turned : (a b : ℕ) → (a == b) ≡ (b == a)
    turned a b = grind (arith, nat_tests)

    tied : (k q : ℕ) → is_at (nat_cmp k) q ≡ (q == k)
    tied k q = unsigned_tied k q ∙ turned k q
