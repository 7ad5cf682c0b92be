-- Maps whose numbers are below an end, and what is found in them number by number.
use Rattle.std.proofs.Common.{◌≡◌, ap, refl, sym, ◌∙◌, ℕ, Bool, cond, arith, add-one, suc, zero, ◌+◌, ◌<◌, ◌≤◌, true, false}
use Rattle.std.specs.Prelude.{List, [], ◌∷◌, drop, length, Option, Some, None, slice_index_or, is_some, nat_lt}
use Rattle.std.proofs.lemmas.Bool.Decides.{nat_tests}
use Rattle.std.specs.Ordering.{nat_cmp, eq_by_cmp}
use Rattle.std.specs.Cmp.{nat_cmp_total}
use Rattle.std.specs.FinMap as fin
use Rattle.lj_book.specs.inner.Slots.{slot_map, slot_numbers, AreBefore}
use Rattle.lj_book.proofs.NumberMaps.{same_map}
use Rattle.lj_book.proofs.Scans.{numbers_in}
use Rattle.lj_book.proofs.Slots.{slot, get_slot, slot_within, slot_past, numbers-empty, numbers-taken, numbers-passed, numbers-end, slot_numbers_are}

abbrev Numbered : Type 0 → Type 0
Numbered V = fin.FinMap nat_cmp V

pub before-empty : {V : Type 0} (n : ℕ) → AreBefore n (fin.empty {X = V})
before-empty n q h = fin.get-empty nat_cmp q

pub before-insert : {V : Type 0} (n : ℕ) (m : Numbered V) (k : ℕ) (v : V) → k < n → AreBefore n m → AreBefore n (fin.insert m k v)
before-insert n m k v lt before q h =
    fin.get-insert nat_cmp_total m k v q
    ∙ ap (λ b. cond b (Some v) (fin.get m q)) (differ q k (grind arith))
    ∙ before q h
  where
    differ : (q k : ℕ) → k < q → eq_by_cmp nat_cmp q k ≡ false
    differ q k h = grind arith

pub before-remove : {V : Type 0} (n : ℕ) (m : Numbered V) (k : ℕ) → AreBefore n m → AreBefore n (fin.remove m k)
before-remove n m k before q h = fin.get-remove nat_cmp_total m k q ∙ by (eq_by_cmp nat_cmp q k)
  where
    by : (b : Bool) → cond b None (fin.get m q) ≡ None
    by true = refl
    by false = before q h

-- where no number is behind the last one
pub before-given : {V : Type 0} (last : ℕ) (m : Numbered V) → ((n : ℕ) → fin.contains_key m n ≡ true → n ≤ last) → AreBefore (last + 1) m
before-given {V} last m given q h = by (fin.get m q) refl
  where
    by : (o : Option V) → fin.get m q ≡ o → o ≡ None
    by None e = refl
    by (Some v) e = absurd (let there = given q (ap is_some e) in let no : ⊥ = omega (arith, there, h) in no)

-- ---- a map seen as slots

-- what the map has at so many numbers from this one on
abbrev pub slots_from : {V : Type 0} → Numbered V → ℕ → ℕ → List (Option V)
slots_from m n zero = []
slots_from m n (suc k) = fin.get m n ∷ slots_from m (suc n) k

length-slots_from : {V : Type 0} (m : Numbered V) (n k : ℕ) → length (slots_from m n k) ≡ k
length-slots_from m n zero = refl
length-slots_from m n (suc k) = ap suc (length-slots_from m (suc n) k)

slot_from : {V : Type 0} (m : Numbered V) (n k i q : ℕ) → i < k → q ≡ n + i → slot (slots_from m n k) i ≡ fin.get m q
slot_from m n zero i q h e = absurd (grind arith)
slot_from m n (suc k) zero q h e = ap (fin.get m) (grind arith)
slot_from m n (suc k) (suc i) q h e = slot_from m (suc n) k i q (grind arith) (grind arith)

same_slots : {V : Type 0} (m : Numbered V) (n : ℕ) → AreBefore n m → slot_map (slots_from m 0 n) ≡ m
same_slots m n before = same_map _ _ (λ q. get_slot (slots_from m 0 n) q ∙ by q (nat_lt q n) refl)
  where
    by : (q : ℕ) (b : Bool) → nat_lt q n ≡ b → slot (slots_from m 0 n) q ≡ fin.get m q
    by q true e = slot_from m 0 n q q (grind (arith, nat_tests)) (grind arith)
    by q false e =
        let le : n ≤ q = grind (arith, nat_tests) in
        let length_is : length (slots_from m 0 n) ≡ n = length-slots_from m 0 n in
        slot_past (slots_from m 0 n) q (omega (arith, le, length_is)) ∙ sym (before q le)

-- the numbers from k on, up to the end, whose value passes
abbrev pub numbers_from : {V : Type 0} → (V → Bool) → Numbered V → ℕ → ℕ → List ℕ
numbers_from test m end k = slot_numbers test k (drop k (slots_from m 0 end))

within : {V : Type 0} (m : Numbered V) (end k : ℕ) → k < end → k < length (slots_from m 0 end)
within m end k h = let length_is : length (slots_from m 0 end) ≡ end = length-slots_from m 0 end in omega (arith, h, length_is)

slot_is : {V : Type 0} (m : Numbered V) (end k : ℕ) (o : Option V) → k < end → fin.get m k ≡ o → slice_index_or (slots_from m 0 end) k None ≡ o
slot_is m end k o h e = sym (slot_within (slots_from m 0 end) k None (within m end k h)) ∙ slot_from m 0 end k k h (grind arith) ∙ e

pub from-empty : {V : Type 0} (test : V → Bool) (m : Numbered V) (end k : ℕ) → k < end → fin.get m k ≡ None → numbers_from test m end (k + 1) ≡ numbers_from test m end k
from-empty test m end k h e = numbers-empty test (slots_from m 0 end) k None (within m end k h) (slot_is m end k None h e)

pub from-taken : {V : Type 0} (test : V → Bool) (m : Numbered V) (end k : ℕ) (v : V) → k < end → fin.get m k ≡ Some v → test v ≡ true → numbers_from test m end k ≡ k ∷ numbers_from test m end (k + 1)
from-taken test m end k v h e t = numbers-taken test (slots_from m 0 end) k None v (within m end k h) (slot_is m end k (Some v) h e) t

pub from-passed : {V : Type 0} (test : V → Bool) (m : Numbered V) (end k : ℕ) (v : V) → k < end → fin.get m k ≡ Some v → test v ≡ false → numbers_from test m end (k + 1) ≡ numbers_from test m end k
from-passed test m end k v h e t = numbers-passed test (slots_from m 0 end) k None v (within m end k h) (slot_is m end k (Some v) h e) t

pub from-end : {V : Type 0} (test : V → Bool) (m : Numbered V) (end k : ℕ) → end ≤ k → numbers_from test m end k ≡ []
from-end test m end k h = numbers-end test (slots_from m 0 end) k (let length_is : length (slots_from m 0 end) ≡ end = length-slots_from m 0 end in omega (arith, h, length_is))

-- from 0 on they are all
pub from-first : {V : Type 0} (test : V → Bool) (m : Numbered V) (end : ℕ) → AreBefore end m → numbers_from test m end 0 ≡ numbers_in test (fin.entries m)
from-first test m end before = slot_numbers_are test (slots_from m 0 end) ∙ ap (λ n. numbers_in test (fin.entries n)) (same_slots m end before)

-- and so they are from any number on before which none passes
pub from_skipped : {V : Type 0} (test : V → Bool) (m : Numbered V) (end from k : ℕ) → k ≤ from → ((n : ℕ) (v : V) → fin.get m n ≡ Some v → test v ≡ true → from ≤ n) → numbers_from test m end k ≡ numbers_from test m end 0
from_skipped test m end from zero le none = refl
from_skipped {V} test m end from (suc k) le none = ap (numbers_from test m end) (sym (add-one k)) ∙ step (nat_lt k end) refl ∙ from_skipped test m end from k (omega (arith, le)) none
  where
    is_below : (a b : ℕ) → nat_lt a b ≡ true → a < b
    is_below a b e = grind (arith, nat_tests)

    is_past : (a b : ℕ) → nat_lt a b ≡ false → b ≤ a
    is_past a b e = grind (arith, nat_tests)

    by_test : (v : V) (b : Bool) → k < end → fin.get m k ≡ Some v → test v ≡ b → numbers_from test m end (k + 1) ≡ numbers_from test m end k
    by_test v true lt at t = absurd (let at_least = none k v at t in let no : ⊥ = omega (arith, at_least, le) in no)
    by_test v false lt at t = from-passed test m end k v lt at t

    by : (o : Option V) → k < end → fin.get m k ≡ o → numbers_from test m end (k + 1) ≡ numbers_from test m end k
    by None lt at = from-empty test m end k lt at
    by (Some v) lt at = by_test v (test v) lt at refl

    step : (b : Bool) → nat_lt k end ≡ b → numbers_from test m end (k + 1) ≡ numbers_from test m end k
    step true e = by (fin.get m k) (is_below k end e) refl
    step false e = from-end test m end (k + 1) (let past = is_past k end e in omega (arith, past)) ∙ sym (from-end test m end k (is_past k end e))
