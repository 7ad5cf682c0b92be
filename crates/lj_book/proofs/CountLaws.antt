-- Counts of numbers, in slots and beyond them.
use Rattle.std.proofs.Common.{◌≡◌, ap, refl, ◌∙◌, ℕ, zero, suc, ◌+◌, ◌-◌, ◌<◌, ◌≤◌, cond, true, false, arith}
use Rattle.std.specs.Prelude.{List, [], ◌∷◌, ◌++◌, ◌==◌, Some, None, Result, Ok, Err, OnOk, OnErr, length, slice_index_or, slice_set, if◌then◌else◌}
use Rattle.std.proofs.lemmas.Bool.Decides.{nat_tests}
use Rattle.std.specs.Ordering.{nat_cmp, eq_by_cmp}
use Rattle.std.specs.Cmp.{nat_cmp_total}
use Rattle.std.specs.FinMap as fin
use Rattle.lj_book.specs.Tables.{Table}
use Rattle.lj_book.specs.inner.Holders.{count_or_none, count_beyond, slot_count}

same_here : (j q : ℕ) → (j == q) ≡ true → j ≡ q
same_here j q e = grind (arith, nat_tests)

tied : (q j : ℕ) → eq_by_cmp nat_cmp q j ≡ (j == q)
tied q j = grind arith

-- ---- beyond the slots

count_beyond-insert : (m : Table) (j n q : ℕ) → count_beyond (fin.insert m j n) q ≡ cond (j == q) n (count_beyond m q)
count_beyond-insert m j n q =
    ap count_or_none (fin.get-insert nat_cmp_total m j n q)
    ∙ ap (λ b. count_or_none (cond b (Some n) (fin.get m q))) (tied q j)
    ∙ elim (j == q) as (λ b. count_or_none (cond b (Some n) (fin.get m q)) ≡ cond b n (count_beyond m q)) [ true ↦ refl | false ↦ refl ]

pub one_beyond : (m n : Table) (j k q : ℕ) → k ≡ count_beyond m j + 1 → n ≡ fin.insert m j k → count_beyond n q ≡ (if j == q then 1 else 0) + count_beyond m q
one_beyond m n j k q is e =
    let a = count_beyond-insert m j k q in
    let b = ap (λ (t : Table). count_beyond t q) e in
    elim (j == q) as (λ b. (j == q) ≡ b → count_beyond (fin.insert m j k) q ≡ cond b k (count_beyond m q) → count_beyond n q ≡ (if b then 1 else 0) + count_beyond m q) [
      | true ↦ λ same f. let h = ap (count_beyond m) (same_here j q same) in omega arith
      | false ↦ λ same f. omega arith
    ] refl a

pub one_less_beyond : {T E : Type 0} (m n : Table) (j k q : ℕ) (r : Result T E) → 0 < count_beyond m j → k ≡ count_beyond m j - 1 → OnOk r (n ≡ fin.insert m j k) → OnErr r (fin.get m j ≡ None) → count_beyond m q ≡ (if j == q then 1 else 0) + count_beyond n q
one_less_beyond m n j k q (Ok u) some is ok err =
    let a = count_beyond-insert m j k q in
    let b = ap (λ (t : Table). count_beyond t q) ok in
    elim (j == q) as (λ b. (j == q) ≡ b → count_beyond (fin.insert m j k) q ≡ cond b k (count_beyond m q) → count_beyond m q ≡ (if b then 1 else 0) + count_beyond n q) [
      | true ↦ λ same f. let h = ap (count_beyond m) (same_here j q same) in omega arith
      | false ↦ λ same f. omega arith
    ] refl a
one_less_beyond m n j k q (Err e) some is ok err = let none = ap count_or_none err in absurd (omega (arith, some, none))

-- ---- in slots

pub slot_is : (xs : List ℕ) (k d : ℕ) → k < length xs → slot_count xs k ≡ slice_index_or xs k d
slot_is [] k d h = absurd (grind arith)
slot_is (x ∷ xs) zero d h = refl
slot_is (x ∷ xs) (suc k) d h = slot_is xs k d (grind arith)

pub slot_none : (xs : List ℕ) (k : ℕ) → length xs ≤ k → slot_count xs k ≡ 0
slot_none [] k h = refl
slot_none (x ∷ xs) zero h = absurd (grind arith)
slot_none (x ∷ xs) (suc k) h = slot_none xs k (grind arith)

pub slot_within : (xs : List ℕ) (k n : ℕ) → n ≡ slot_count xs k → 0 < n → k < length xs
slot_within [] k n e h = absurd (omega (arith, e, h))
slot_within (x ∷ xs) zero n e h = grind arith
slot_within (x ∷ xs) (suc k) n e h = let a = slot_within xs k n e h in grind arith

slot_here : (xs : List ℕ) (k x : ℕ) → k < length xs → slot_count (slice_set xs k x) k ≡ x
slot_here [] k x h = absurd (grind arith)
slot_here (y ∷ xs) zero x h = refl
slot_here (y ∷ xs) (suc k) x h = slot_here xs k x (grind arith)

slot_other : (xs : List ℕ) (k x q : ℕ) → (k == q) ≡ false → slot_count (slice_set xs k x) q ≡ slot_count xs q
slot_other [] zero x q e = refl
slot_other [] (suc k) x q e = refl
slot_other (y ∷ xs) zero x zero e = absurd (grind arith)
slot_other (y ∷ xs) zero x (suc q) e = refl
slot_other (y ∷ xs) (suc k) x zero e = refl
slot_other (y ∷ xs) (suc k) x (suc q) e = slot_other xs k x q (grind arith)

pub slot_push : (xs : List ℕ) (q : ℕ) → slot_count (xs ++ 0 ∷ []) q ≡ slot_count xs q
slot_push [] zero = refl
slot_push [] (suc q) = refl
slot_push (x ∷ xs) zero = refl
slot_push (x ∷ xs) (suc q) = slot_push xs q

pub one_more : (xs : List ℕ) (k x q : ℕ) → k < length xs → x ≡ slot_count xs k + 1 → slot_count (slice_set xs k x) q ≡ (if k == q then 1 else 0) + slot_count xs q
one_more xs k x q h is =
    let a = slot_here xs k x h in
    elim (k == q) as (λ b. (k == q) ≡ b → slot_count (slice_set xs k x) q ≡ (if b then 1 else 0) + slot_count xs q) [
      | true ↦ λ same. let f = ap (slot_count (slice_set xs k x)) (same_here k q same) in let g = ap (slot_count xs) (same_here k q same) in omega arith
      | false ↦ λ same. let f = slot_other xs k x q same in omega arith
    ] refl

pub one_less : (xs : List ℕ) (k x q : ℕ) → k < length xs → slot_count xs k ≡ x + 1 → slot_count xs q ≡ (if k == q then 1 else 0) + slot_count (slice_set xs k x) q
one_less xs k x q h is =
    let a = slot_here xs k x h in
    elim (k == q) as (λ b. (k == q) ≡ b → slot_count xs q ≡ (if b then 1 else 0) + slot_count (slice_set xs k x) q) [
      | true ↦ λ same. let f = ap (slot_count (slice_set xs k x)) (same_here k q same) in let g = ap (slot_count xs) (same_here k q same) in omega arith
      | false ↦ λ same. let f = slot_other xs k x q same in omega arith
    ] refl
