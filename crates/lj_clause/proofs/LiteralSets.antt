-- What sets of literals hold, and how they are listed.
use Rattle.std.proofs.Common.{◌≡◌, ap, refl, sym, ◌∙◌, inl, inr}
use Rattle.std.specs.Prelude.{ℤ, Bool, true, false, cond, T, ◌||◌, ◌&&◌, ◌⊎◌, List, [], ◌∷◌, map, is_some, Option, Some, None}
use Rattle.std.specs.List.{list_any, dedup, dedup_from, AllByRecursion}
use Rattle.std.specs.List.Sorted.{IsStrictlySortedBy}
use Rattle.std.specs.Ordering.{eq_by_cmp, is_eq}
use Rattle.std.specs.Cmp.{both_ways, tied_itself}
use Rattle.std.proofs.lemmas.Bool.{false≢true, and_parts, or_cases, or_left, or_right}
use lib.Pointwise.{pointwise}
use Rattle.std.specs.declared.cmp.Ordering.TheVariants.{Less}
use Rattle.std.specs.FinMap as fin
use Rattle.std.specs.FinMap.Entries.{same_entries, is_sorted, below_all, find}
use Rattle.lj_clause.specs.Literal.{lit_cmp}
use Rattle.lj_clause.specs.inner.Literal.{lit_cmp_total}
use Rattle.lj_clause.specs.LiteralSet.{LiteralSet, no_literals, holds, with_literal, literals, from_literals}
use Rattle.lj_clause.proofs.Literals.{lit_cmp-antisymmetric, same_literal}
use Rattle.lj_clause.proofs.Tests.{marked, left_of, right_of, both_of}
use Rattle.lj_clause.proofs.SortedEntries.{less, is_less}

pub holds-no_literals : (q : ℤ) → holds no_literals q ≡ false
holds-no_literals q = ap is_some (fin.get-empty lit_cmp q)

pub holds-with_literal : (s : LiteralSet) (l q : ℤ) → holds (with_literal s l) q ≡ (eq_by_cmp lit_cmp q l || holds s q)
holds-with_literal s l q = ap is_some (fin.get-insert lit_cmp_total s l tt q) ∙ marked (eq_by_cmp lit_cmp q l) (fin.get s q)

pub holds-from_literals : (ls : List ℤ) (q : ℤ) → holds (from_literals ls) q ≡ list_any (eq_by_cmp lit_cmp q) ls
holds-from_literals [] q = holds-no_literals q
holds-from_literals (l ∷ ls) q = holds-with_literal (from_literals ls) l q ∙ ap (λ b. eq_by_cmp lit_cmp q l || b) (holds-from_literals ls q)

-- a set holds what it lists
pub holds-literals : (s : LiteralSet) (q : ℤ) → holds s q ≡ list_any (eq_by_cmp lit_cmp q) (literals s)
holds-literals s q = fin.contains_key-keys s q

pub held_still : (s : LiteralSet) (l q : ℤ) → holds s q ≡ true → holds (with_literal s l) q ≡ true
held_still s l q h = holds-with_literal s l q ∙ or_right (eq_by_cmp lit_cmp q l) (holds s q) h

pub held_now : (s : LiteralSet) (l : ℤ) → holds (with_literal s l) l ≡ true
held_now s l = holds-with_literal s l l ∙ or_left (eq_by_cmp lit_cmp l l) (holds s l) (ap is_eq (tied_itself lit_cmp_total l))

pub held_before : (s : LiteralSet) (l q : ℤ) → holds (with_literal s l) q ≡ true → (q ≡ l) ⊎ (holds s q ≡ true)
held_before s l q h =
    elim (or_cases (eq_by_cmp lit_cmp q l) (holds s q) (sym (holds-with_literal s l q) ∙ h)) [ inl e ↦ inl (same_literal q l e) | inr e ↦ inr e ]

propagator : (x : Option (Unit {0})) → x ≡ cond (is_some x) (Some tt) None
propagator None = refl
propagator (Some u) = refl

-- two sets with the same literals are one
pub same_set : (s t : LiteralSet) → ((q : ℤ) → holds s q ≡ holds t q) → s ≡ t
same_set s t is = fin.same_map lit_cmp_total lit_cmp-antisymmetric s t (λ q. propagator _ ∙ ap (λ b. cond b (Some tt) None) (is q) ∙ sym (propagator _))

-- and so are two of which each holds what the other does
pub same_by : (s t : LiteralSet) → ((q : ℤ) → holds s q ≡ true → holds t q ≡ true) → ((q : ℤ) → holds t q ≡ true → holds s q ≡ true) → s ≡ t
same_by s t f g = same_set s t (λ q. both_ways (holds s q) (holds t q) (f q) (g q))

-- and two that list the same
pub same_literals : (s t : LiteralSet) → literals s ≡ literals t → s ≡ t
same_literals s t e = same_set s t (λ q. holds-literals s q ∙ ap (list_any (eq_by_cmp lit_cmp q)) e ∙ sym (holds-literals t q))

abbrev as_entries : List ℤ → List (ℤ × Unit {0})
as_entries ls = map (λ l. (l, tt)) ls

below_entries : (x : ℤ) (ls : List ℤ) → AllByRecursion (λ y. lit_cmp x y ≡ Less) ls → T (below_all lit_cmp x (as_entries ls))
below_entries x [] h = tt
below_entries x (l ∷ ls) h = both_of _ _ (less _ h.0) (below_entries x ls h.1)

rising_entries : (ls : List ℤ) → IsStrictlySortedBy lit_cmp ls → T (is_sorted lit_cmp (as_entries ls))
unfolding IsStrictlySortedBy
rising_entries [] h = tt
rising_entries (l ∷ ls) h = both_of _ _ (below_entries l ls h.0) (rising_entries ls h.1)

get-from_literals : (ls : List ℤ) (q : ℤ) → fin.get (from_literals ls) q ≡ find lit_cmp q (as_entries ls)
get-from_literals [] q = fin.get-empty lit_cmp q
get-from_literals (l ∷ ls) q = fin.get-insert lit_cmp_total (from_literals ls) l tt q ∙ ap (cond (eq_by_cmp lit_cmp q l) (Some tt)) (get-from_literals ls q)

keys-as_entries : (ls : List ℤ) → map (λ (e : ℤ × Unit {0}). e.0) (as_entries ls) ≡ ls
keys-as_entries [] = refl
keys-as_entries (l ∷ ls) = ap (λ xs. l ∷ xs) (keys-as_entries ls)

-- the set of a list in order lists that list
pub literals-from_literals : (ls : List ℤ) → IsStrictlySortedBy lit_cmp ls → literals (from_literals ls) ≡ ls
literals-from_literals ls h =
    ap (map (λ (e : ℤ × Unit {0}). e.0)) (same_entries lit_cmp lit_cmp_total lit_cmp-antisymmetric (fin.entries (from_literals ls)) (as_entries ls) (fin.entries_sorted (from_literals ls)) (rising_entries ls h) (λ q. sym (fin.get-entries (from_literals ls) q) ∙ get-from_literals ls q))
    ∙ keys-as_entries ls

rising_keys : (es : List (ℤ × Unit {0})) → T (is_sorted lit_cmp es) → IsStrictlySortedBy lit_cmp (map (λ (e : ℤ × Unit {0}). e.0) es)
unfolding IsStrictlySortedBy
rising_keys [] h = tt
rising_keys (e ∷ es) h = (above e.0 es (left_of _ _ h), rising_keys es (right_of _ _ h))
  where
    above : (x : ℤ) (es : List (ℤ × Unit {0})) → T (below_all lit_cmp x es) → AllByRecursion (λ y. lit_cmp x y ≡ Less) (map (λ (e : ℤ × Unit {0}). e.0) es)
    above x [] h = tt
    above x (f ∷ fs) h = (is_less _ (left_of _ _ h), above x fs (right_of _ _ h))

-- the literals of a set rise
pub literals_rise : (s : LiteralSet) → IsStrictlySortedBy lit_cmp (literals s)
literals_rise s = rising_keys (fin.entries s) (fin.entries_sorted s)

-- and they make the set
pub from_literals-literals : (s : LiteralSet) → from_literals (literals s) ≡ s
from_literals-literals s = same_literals _ s (literals-from_literals (literals s) (literals_rise s))

-- two lists that hold the same literals make one set
pub from_literals-same : (xs ys : List ℤ) → ((q : ℤ) → list_any (eq_by_cmp lit_cmp q) xs ≡ list_any (eq_by_cmp lit_cmp q) ys) → from_literals xs ≡ from_literals ys
from_literals-same xs ys is = same_set _ _ (λ q. holds-from_literals xs q ∙ is q ∙ sym (holds-from_literals ys q))

pub or_twice : (a b : Bool) → (a || b) ≡ (a || (a || b))
or_twice true b = refl
or_twice false b = refl

-- a test that tells no two alike passes the same lists before and after `dedup`
list_any-dedup_from : {X : Type 0} (same : X → X → Bool) (p : X → Bool) → ((x k : X) → same x k ≡ true → p x ≡ p k) → (k : X) (xs : List X) → list_any p (dedup_from same k xs) ≡ (p k || list_any p xs)
list_any-dedup_from same p alike k [] = refl
list_any-dedup_from same p alike k (x ∷ xs) =
    elim (same x k) as (λ b. same x k ≡ b → list_any p (cond b (dedup_from same k xs) (k ∷ dedup_from same x xs)) ≡ (p k || (p x || list_any p xs))) [
      | true ↦ λ e. list_any-dedup_from same p alike k xs ∙ or_twice (p k) (list_any p xs) ∙ ap (λ b. p k || (b || list_any p xs)) (sym (alike x k e))
      | false ↦ λ e. ap (λ b. p k || b) (list_any-dedup_from same p alike x xs)
    ] refl

pub list_any-dedup : {X : Type 0} (same : X → X → Bool) (p : X → Bool) → ((x k : X) → same x k ≡ true → p x ≡ p k) → (xs : List X) → list_any p (dedup same xs) ≡ list_any p xs
list_any-dedup same p alike [] = refl
list_any-dedup same p alike (x ∷ xs) = list_any-dedup_from same p alike x xs

pub pointwise_same : (xs ys : List ℤ) → pointwise (eq_by_cmp lit_cmp) xs ys ≡ true → xs ≡ ys
pointwise_same [] [] e = refl
pointwise_same [] (y ∷ ys) e = absurd (false≢true e)
pointwise_same (x ∷ xs) [] e = absurd (false≢true e)
pointwise_same (x ∷ xs) (y ∷ ys) e =
    let parts = and_parts (eq_by_cmp lit_cmp x y) (pointwise (eq_by_cmp lit_cmp) xs ys) e in
    λ i. same_literal x y parts.0 i ∷ pointwise_same xs ys parts.1 i

pub pointwise_itself : (xs : List ℤ) → pointwise (eq_by_cmp lit_cmp) xs xs ≡ true
pointwise_itself [] = refl
pointwise_itself (x ∷ xs) = ap (λ r. is_eq r && pointwise (eq_by_cmp lit_cmp) xs xs) (tied_itself lit_cmp_total x) ∙ pointwise_itself xs

-- two lists in order that make one set are one list
pub rising_same : (xs ys : List ℤ) → IsStrictlySortedBy lit_cmp xs → IsStrictlySortedBy lit_cmp ys → from_literals xs ≡ from_literals ys → xs ≡ ys
rising_same xs ys g h e = sym (literals-from_literals xs g) ∙ ap literals e ∙ literals-from_literals ys h
