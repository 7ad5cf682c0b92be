-- Maps whose numbers are all so much greater.
use Rattle.std.proofs.Common.{inl, inr, ◌≡◌, ap, refl, sym, ◌∙◌, subst, ℕ, cond, true, false, arith, ◌+◌, ◌-◌, ◌<◌, ◌≤◌, ◌==◌}
use Rattle.std.specs.Prelude.{◌⊎◌, ◌||◌, List, [], ◌∷◌, ◌++◌, map, Some, None, is_some}
use Rattle.std.proofs.lemmas.Bool.{cases_lt}
use Rattle.std.specs.Ordering.{nat_cmp, eq_by_cmp}
use Rattle.std.specs.Cmp.{nat_cmp_total, eq_by_cmp_equiv}
use Rattle.std.specs.FinMap as fin
use Rattle.std.specs.List.{All}
use Rattle.std.proofs.lemmas.Map.Views.{All-from_any}
use Rattle.std.specs.FinMap.Entries.{find}
use Rattle.lj_book.specs.Tables.{is_among}
use Rattle.lj_book.specs.inner.Slots.{joined_map, shifted, AreBefore}
use Rattle.lj_book.proofs.NumberMaps.{same_map}
use Rattle.lj_book.proofs.HistoryLaws.{among-keys}
use Rattle.lj_book.proofs.Slots.{joined_sparse, joined_alone, insert_sparse, remove_dense, remove_sparse}

abbrev Numbered : Type 0 → Type 0
Numbered V = fin.FinMap nat_cmp V

-- ---- what a shifted map has at a number

alike : (by k n : ℕ) → eq_by_cmp nat_cmp (by + k) (by + n) ≡ eq_by_cmp nat_cmp k n
alike by k n = grind arith

differ : (by q n : ℕ) → q < by → eq_by_cmp nat_cmp q (by + n) ≡ false
differ by q n h = grind arith

find_behind : {V : Type 0} (by k : ℕ) (es : List (ℕ × V)) → find nat_cmp (by + k) (map (λ (e : ℕ × V). (by + e.0, e.1)) es) ≡ find nat_cmp k es
find_behind by k [] = refl
find_behind {V} by k (e ∷ es) =
    ap (λ b. cond b (Some e.1) (find nat_cmp (by + k) (map (λ (e : ℕ × V). (by + e.0, e.1)) es))) (alike by k e.0)
    ∙ ap (cond (eq_by_cmp nat_cmp k e.0) (Some e.1)) (find_behind by k es)

find_before : {V : Type 0} (by q : ℕ) (es : List (ℕ × V)) → q < by → find nat_cmp q (map (λ (e : ℕ × V). (by + e.0, e.1)) es) ≡ None
find_before by q [] h = refl
find_before {V} by q (e ∷ es) h =
    ap (λ b. cond b (Some e.1) (find nat_cmp q (map (λ (e : ℕ × V). (by + e.0, e.1)) es))) (differ by q e.0 h)
    ∙ find_before by q es h

pub get_behind : {V : Type 0} (by k : ℕ) (m : Numbered V) → fin.get (shifted by m) (by + k) ≡ fin.get m k
get_behind by k m =
    fin.get-from_entries nat_cmp_total (map (λ e. (by + e.0, e.1)) (fin.entries m)) (by + k)
    ∙ find_behind by k (fin.entries m)
    ∙ sym (fin.get-entries m k)

pub get_before : {V : Type 0} (by q : ℕ) (m : Numbered V) → q < by → fin.get (shifted by m) q ≡ None
get_before by q m h =
    fin.get-from_entries nat_cmp_total (map (λ e. (by + e.0, e.1)) (fin.entries m)) q
    ∙ find_before by q (fin.entries m) h

-- a number is before the shift or so much behind it
either_side : (by q : ℕ) (P : ℕ → Type 0) → (q < by → P q) → ((k : ℕ) → P (by + k)) → P q
either_side by q P before behind = sides (cases_lt q by)
  where
    sides : (q < by) ⊎ (by ≤ q) → P q
    sides (inl lt) = before lt
    sides (inr le) = let is : by + (q - by) ≡ q = omega (arith, le) in subst P is (behind (q - by))

-- two maps that have the same before the shift and behind it
both_sides : {V : Type 0} (by : ℕ) (m n : Numbered V) → ((q : ℕ) → q < by → fin.get m q ≡ fin.get n q) → ((k : ℕ) → fin.get m (by + k) ≡ fin.get n (by + k)) → m ≡ n
both_sides by m n before behind = same_map m n (λ q. either_side by q (λ q. fin.get m q ≡ fin.get n q) (before q) behind)

pub shifted-empty : {V : Type 0} (by : ℕ) → shifted by (fin.empty {X = V}) ≡ fin.empty
shifted-empty {V} by = both_sides by (shifted by fin.empty) (fin.empty {X = V})
    (λ q h. get_before by q fin.empty h ∙ sym (fin.get-empty nat_cmp q))
    (λ k. get_behind by k fin.empty ∙ fin.get-empty nat_cmp k ∙ sym (fin.get-empty nat_cmp (by + k)))

pub shifted-insert : {V : Type 0} (by k : ℕ) (m : Numbered V) (v : V) → shifted by (fin.insert m k v) ≡ fin.insert (shifted by m) (by + k) v
shifted-insert by k m v = both_sides by (shifted by (fin.insert m k v)) (fin.insert (shifted by m) (by + k) v)
    (λ q h. get_before by q (fin.insert m k v) h
    ∙ sym (fin.get-insert nat_cmp_total (shifted by m) (by + k) v q
    ∙ ap (λ b. cond b (Some v) (fin.get (shifted by m) q)) (differ by q k h)
    ∙ get_before by q m h))
    (λ j. get_behind by j (fin.insert m k v)
    ∙ fin.get-insert nat_cmp_total m k v j
    ∙ sym (fin.get-insert nat_cmp_total (shifted by m) (by + k) v (by + j)
    ∙ ap (λ b. cond b (Some v) (fin.get (shifted by m) (by + j))) (alike by j k)
    ∙ ap (cond (eq_by_cmp nat_cmp j k) (Some v)) (get_behind by j m)))

pub shifted-remove : {V : Type 0} (by k : ℕ) (m : Numbered V) → shifted by (fin.remove m k) ≡ fin.remove (shifted by m) (by + k)
shifted-remove by k m = both_sides by (shifted by (fin.remove m k)) (fin.remove (shifted by m) (by + k))
    (λ q h. get_before by q (fin.remove m k) h
    ∙ sym (fin.get-remove nat_cmp_total (shifted by m) (by + k) q
    ∙ ap (λ b. cond b None (fin.get (shifted by m) q)) (differ by q k h)
    ∙ get_before by q m h))
    (λ j. get_behind by j (fin.remove m k)
    ∙ fin.get-remove nat_cmp_total m k j
    ∙ sym (fin.get-remove nat_cmp_total (shifted by m) (by + k) (by + j)
    ∙ ap (λ b. cond b None (fin.get (shifted by m) (by + j))) (alike by j k)
    ∙ ap (cond (eq_by_cmp nat_cmp j k) None) (get_behind by j m)))

-- ---- a map up to an end, and one from there on

from_end : (end q : ℕ) → end ≤ q → end + (q - end) ≡ q
from_end end q h = omega (arith, h)

-- what both have at a number from the end on, and at one before it
pub late_get : {V : Type 0} (end q : ℕ) (early late : Numbered V) → AreBefore end early → end ≤ q → fin.get (joined_map early (shifted end late)) q ≡ fin.get late (q - end)
late_get end q early late before h =
    joined_sparse early (shifted end late) q (before q h)
    ∙ ap (fin.get (shifted end late)) (sym (from_end end q h))
    ∙ get_behind end (q - end) late

pub early_get : {V : Type 0} (end q : ℕ) (early late : Numbered V) → q < end → fin.get (joined_map early (shifted end late)) q ≡ fin.get early q
early_get end q early late h = joined_alone early (shifted end late) q (get_before end q late h)

pub late_insert : {V : Type 0} (end q : ℕ) (early late : Numbered V) (v : V) → AreBefore end early → end ≤ q → joined_map early (shifted end (fin.insert late (q - end) v)) ≡ fin.insert (joined_map early (shifted end late)) q v
late_insert end q early late v before h =
    ap (joined_map early) (shifted-insert end (q - end) late v ∙ ap (λ n. fin.insert (shifted end late) n v) (from_end end q h))
    ∙ insert_sparse early (shifted end late) q v (before q h)

pub late_remove : {V : Type 0} (end q : ℕ) (early late : Numbered V) → AreBefore end early → end ≤ q → joined_map early (shifted end (fin.remove late (q - end))) ≡ fin.remove (joined_map early (shifted end late)) q
late_remove end q early late before h =
    ap (joined_map early) (shifted-remove end (q - end) late ∙ ap (fin.remove (shifted end late)) (from_end end q h))
    ∙ remove_sparse early (shifted end late) q (before q h)

pub early_remove : {V : Type 0} (end q : ℕ) (early late : Numbered V) → q < end → joined_map (fin.remove early q) (shifted end late) ≡ fin.remove (joined_map early (shifted end late)) q
early_remove end q early late h = remove_dense early (shifted end late) q (get_before end q late h)

-- ---- the numbers of a shifted map

same_place : (by n k : ℕ) → (by + n == by + k) ≡ (n == k)
same_place by n k = grind arith

elsewhere : (by n q : ℕ) → q < by → (by + n == q) ≡ false
elsewhere by n q h = grind arith

among_behind : (by k : ℕ) (ns : List ℕ) → is_among (map (λ n. by + n) ns) (by + k) ≡ is_among ns k
among_behind by k [] = refl
among_behind by k (n ∷ ns) = ap (λ b. b || is_among (map (λ n. by + n) ns) (by + k)) (same_place by n k) ∙ ap (λ b. (n == k) || b) (among_behind by k ns)

among_before : (by q : ℕ) (ns : List ℕ) → q < by → is_among (map (λ n. by + n) ns) q ≡ false
among_before by q [] h = refl
among_before by q (n ∷ ns) h = ap (λ b. b || is_among (map (λ n. by + n) ns) q) (elsewhere by n q h) ∙ among_before by q ns h

-- they are the numbers of the map, each so much greater
pub among_shifted : {V : Type 0} (by : ℕ) (m : Numbered V) (q : ℕ) → is_among (map (λ n. by + n) (fin.keys m)) q ≡ is_among (fin.keys (shifted by m)) q
among_shifted by m q = either_side by q (λ q. is_among (map (λ n. by + n) (fin.keys m)) q ≡ is_among (fin.keys (shifted by m)) q)
    (λ h. among_before by q (fin.keys m) h ∙ sym (among-keys (shifted by m) q ∙ ap is_some (get_before by q m h)))
    (λ k. among_behind by k (fin.keys m) ∙ among-keys m k ∙ ap is_some (sym (get_behind by k m)) ∙ sym (among-keys (shifted by m) (by + k)))

pub among_each : (ks xs ys : List ℕ) (q : ℕ) → is_among xs q ≡ is_among ys q → is_among (ks ++ xs) q ≡ is_among (ks ++ ys) q
among_each [] xs ys q e = e
among_each (k ∷ ks) xs ys q e = ap (λ b. (k == q) || b) (among_each ks xs ys q e)

-- what holds of each number before an end holds of all numbers of a map that ends there
pub keys_before : {V : Type 0} (P : ℕ → Type 0) (end : ℕ) (m : Numbered V) → ((n : ℕ) → n < end → P n) → AreBefore end m → All P (fin.keys m)
keys_before {V} P end m each before = All-from_any (eq_by_cmp_equiv nat_cmp_total) P (fin.keys m) (λ q there. below q (cases_lt q end) (fin.contains_key-keys m q ∙ there))
  where
    below : (q : ℕ) → (q < end) ⊎ (end ≤ q) → is_some (fin.get m q) ≡ true → P q
    below q (inl lt) there = each q lt
    below q (inr le) there = absurd (not_there (sym there ∙ ap is_some (before q le)))
      where
        not_there : true ≡ false → ⊥
        not_there e = grind arith
