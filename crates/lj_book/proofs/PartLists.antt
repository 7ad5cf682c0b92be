-- The least part of a clause, by the lists of its literals.
use Rattle.std.proofs.Common.{◌≡◌, ap, refl, sym, ◌∙◌, subst, ℕ, ◌<◌, Bool, cond, true, false, arith}
use Rattle.std.specs.Prelude.{T, ℤ, nat_le, List, [], ◌∷◌, ◌++◌, map, filter, length, Option, Some, None, is_some, ◌==◌, ◌||◌, ◌&&◌, slice_get}
use Rattle.std.specs.List.{list_any, list_all}
use Rattle.std.proofs.lemmas.Bool.{false≢true, and_parts, or_left}
use Rattle.std.proofs.lemmas.Bool.Decides.{nat_tests}
use Rattle.std.proofs.lemmas.List.Kept.{IsStrictlySortedBy-filter}
use Rattle.std.specs.declared.cmp.Ordering.TheVariants.{Less}
use Rattle.std.specs.Ordering.{nat_cmp, eq_by_cmp}
use Rattle.std.specs.FinMap as fin
use Rattle.std.specs.FinMap.Entries.{is_sorted, below_all}
use Rattle.lj_clause.specs.Literal.{lit_cmp, index_of}
use Rattle.lj_clause.specs.LiteralSet.{LiteralSet, holds, literals}
use Rattle.lj_clause.specs.ClauseMap.{ClauseMap}
use Rattle.lj_clause.proofs.LiteralSets.{holds-literals}
use Rattle.lj_clause.proofs.Among.{itself}
use Rattle.lj_clause.proofs.Literals.{same_literal}
use Rattle.lj_clause.proofs.Tests.{left_of, right_of}
use Rattle.lj_clause.proofs.SortedEntries.{is_less}
use Rattle.lj_book.specs.Tables.{is_among}
use Rattle.lj_book.specs.Lookup.{is_part, numbers_where, least_part}
use Rattle.lj_book.specs.inner.Occurrences.{Lists, keys_of, list_at, AreOccurrences}
use Rattle.lj_book.specs.inner.Parts.{first_key, is_first, begins_part, lesser, is_among_firsts, least_begun}
use Rattle.lj_book.proofs.HistoryLaws.{among-filter}
use Rattle.lj_book.proofs.OccurrenceLaws.{passes, found_all, holds_place}

-- ---- the least number that passes one of two tests

abbrev numbers_in : {X : Type 0} → (X → Bool) → List (ℕ × X) → List ℕ
numbers_in test es = map (λ e. e.0) (filter (λ e. test e.1) es)

below_is : (n m : ℕ) → nat_cmp n m ≡ Less → n < m
below_is n m h = grind arith

-- every number that is found is beyond one that all entries are beyond
found_later : {X : Type 0} (test : X → Bool) (n m : ℕ) (es : List (ℕ × X)) → T (below_all nat_cmp n es) → slice_get (numbers_in test es) 0 ≡ Some m → n < m
found_later test n m [] below h = absurd (false≢true (ap is_some h))
found_later {X} test n m (e ∷ es) below h =
    elim (test e.1) as (λ b. slice_get (map (λ (f : ℕ × X). f.0) (cond b (e ∷ filter (λ f. test f.1) es) (filter (λ f. test f.1) es))) 0 ≡ Some m → n < m) [
      | true ↦ λ g. let is : e.0 ≡ m = cc in subst (λ k. n < k) is (below_is n e.0 (is_less (nat_cmp n e.0) (left_of _ _ below)))
      | false ↦ λ g. found_later test n m es (right_of _ _ below) g
    ] h

lesser_first : (n : ℕ) (o : Option ℕ) → ((m : ℕ) → o ≡ Some m → n < m) → lesser (Some n) o ≡ Some n
lesser_first n None later = refl
lesser_first n (Some m) later = ap (λ b. cond b (Some n) (Some m)) (let lt = later m refl in is_le n m lt)
  where
    is_le : (n m : ℕ) → n < m → nat_le n m ≡ true
    is_le n m lt = grind (arith, nat_tests)

lesser_second : (n : ℕ) (o : Option ℕ) → ((m : ℕ) → o ≡ Some m → n < m) → lesser o (Some n) ≡ Some n
lesser_second n None later = refl
lesser_second n (Some m) later = ap (λ b. cond b (Some m) (Some n)) (let lt = later m refl in not_le n m lt)
  where
    not_le : (n m : ℕ) → n < m → nat_le m n ≡ false
    not_le n m lt = grind (arith, nat_tests)

lesser_same : (n : ℕ) → lesser (Some n) (Some n) ≡ Some n
lesser_same n = elim (nat_le n n) as (λ b. cond b (Some n) (Some n) ≡ Some n) [ true ↦ refl | false ↦ refl ]

least_in : {X : Type 0} (f g : X → Bool) (es : List (ℕ × X)) → T (is_sorted nat_cmp es) → slice_get (numbers_in (λ x. f x || g x) es) 0 ≡ lesser (slice_get (numbers_in f es) 0) (slice_get (numbers_in g es) 0)
least_in f g [] sorted = refl
least_in {X} f g (e ∷ es) sorted =
    let below = left_of _ _ sorted in
    elim (f e.1) as (λ a. slice_get (map (λ (x : ℕ × X). x.0) (cond (a || g e.1) (e ∷ filter (λ x. f x.1 || g x.1) es) (filter (λ x. f x.1 || g x.1) es))) 0
    ≡ lesser (slice_get (map (λ (x : ℕ × X). x.0) (cond a (e ∷ filter (λ x. f x.1) es) (filter (λ x. f x.1) es))) 0) (slice_get (numbers_in g (e ∷ es)) 0)) [
      | true ↦ elim (g e.1) as (λ b. Some e.0 ≡ lesser (Some e.0) (slice_get (map (λ (x : ℕ × X). x.0) (cond b (e ∷ filter (λ x. g x.1) es) (filter (λ x. g x.1) es))) 0)) [
        | true ↦ sym (lesser_same e.0)
        | false ↦ sym (lesser_first e.0 (slice_get (numbers_in g es) 0) (λ m h. found_later g e.0 m es below h))
      ]
      | false ↦ elim (g e.1) as (λ b. slice_get (map (λ (x : ℕ × X). x.0) (cond b (e ∷ filter (λ x. f x.1 || g x.1) es) (filter (λ x. f x.1 || g x.1) es))) 0
          ≡ lesser (slice_get (numbers_in f es) 0) (slice_get (map (λ (x : ℕ × X). x.0) (cond b (e ∷ filter (λ x. g x.1) es) (filter (λ x. g x.1) es))) 0)) [
            | true ↦ sym (lesser_second e.0 (slice_get (numbers_in f es) 0) (λ m h. found_later f e.0 m es below h))
            | false ↦ least_in f g es (right_of _ _ sorted)
          ]
    ]

-- ---- the first under a place

-- the first literal of a clause
abbrev pub first_of : LiteralSet → Option ℤ
first_of d = slice_get (literals d) 0

no_first : (ls : List ℤ) → is_first None (slice_get ls 0) ≡ true → ls ≡ []
no_first [] h = refl
no_first (l ∷ ls) h = absurd (false≢true h)

begins_with : (l : ℤ) (ls : List ℤ) → is_first (Some l) (slice_get ls 0) ≡ true → list_any (eq_by_cmp lit_cmp l) ls ≡ true
begins_with l [] h = absurd (false≢true h)
begins_with l (m ∷ ls) h =
    or_left (eq_by_cmp lit_cmp l m) (list_any (eq_by_cmp lit_cmp l) ls) (ap (λ k. eq_by_cmp lit_cmp k m) (sym (same_literal m l h)) ∙ itself m)

-- a clause is listed under the place of its first literal
first_place : (d : LiteralSet) (first : Option ℤ) → is_first first (first_of d) ≡ true → is_among (keys_of d) (first_key first) ≡ true
first_place d None h = ap (λ b. is_among (cond b (1 ∷ []) (map index_of (literals d))) 1) (ap (λ (ls : List ℤ). length ls == 0) (no_first (literals d) h))
first_place d (Some l) h = holds_place d l ∙ holds-literals d l ∙ begins_with l (literals d) h

pub first_begun : (m : Lists) (p : ClauseMap) (bound : ℕ) (first : Option ℤ) (c : LiteralSet) → AreOccurrences m (fin.get p) bound
    → slice_get (filter (λ n. begins_part c first (fin.get p n)) (list_at m (first_key first))) 0 ≡ slice_get (numbers_where (λ d. is_first first (first_of d) && is_part c d) p) 0
first_begun m p bound first c are =
    let place : ℕ = first_key first in
    ap (λ ns. slice_get ns 0) (found_all p (λ d. is_first first (first_of d) && is_part c d) (filter (λ n. begins_part c first (fin.get p n)) (list_at m place))
    (IsStrictlySortedBy-filter nat_cmp (λ n. begins_part c first (fin.get p n)) (list_at m place) (are.rising place))
    (λ q. among-filter (λ n. begins_part c first (fin.get p n)) (list_at m place) q ∙ by q (fin.get p q) refl))
  where
    by : (q : ℕ) (o : Option LiteralSet) → fin.get p q ≡ o → (begins_part c first o && is_among (list_at m (first_key first)) q) ≡ passes (λ d. is_first first (first_of d) && is_part c d) o
    by q None at = refl
    by q (Some d) at =
        elim (is_first first (first_of d) && is_part c d) as (λ b. (is_first first (first_of d) && is_part c d) ≡ b → (b && is_among (list_at m (first_key first)) q) ≡ b) [
          | true ↦ λ e. are.exact q d at (first_key first) ∙ first_place d first (and_parts (is_first first (first_of d)) (is_part c d) e).0
          | false ↦ λ e. refl
        ] refl

-- ---- literal by literal

pub begun_first : (p : ClauseMap) (c : LiteralSet) → slice_get (numbers_where (λ d. is_first None (first_of d) && is_part c d) p) 0 ≡ least_begun p c []
begun_first p c = λ i. slice_get (numbers_where (λ d. same (first_of d) i && is_part c d) p) 0
  where
    same : (o : Option ℤ) → is_first None o ≡ is_among_firsts [] o
    same None = refl
    same (Some l) = refl

any_push : (test : ℤ → Bool) (ls : List ℤ) (l : ℤ) → list_any test (ls ++ l ∷ []) ≡ (list_any test ls || test l)
any_push test [] l = or_false (test l)
  where
    or_false : (b : Bool) → (b || false) ≡ b
    or_false true = refl
    or_false false = refl
any_push test (m ∷ ls) l = ap (λ b. test m || b) (any_push test ls l) ∙ elim (test m) as (λ a. (a || (list_any test ls || test l)) ≡ ((a || list_any test ls) || test l)) [ true ↦ refl | false ↦ refl ]

pub begun_next : (p : ClauseMap) (c : LiteralSet) (ls : List ℤ) (l : ℤ) → least_begun p c (ls ++ l ∷ []) ≡ lesser (least_begun p c ls) (slice_get (numbers_where (λ d. is_first (Some l) (first_of d) && is_part c d) p) 0)
begun_next p c ls l =
    (λ i. slice_get (numbers_where (λ d. (ap (λ b. b && is_part c d) (more (first_of d)) ∙ share (is_among_firsts ls (first_of d)) (is_first (Some l) (first_of d)) (is_part c d)) i) p) 0)
    ∙ least_in (λ d. is_among_firsts ls (first_of d) && is_part c d) (λ d. is_first (Some l) (first_of d) && is_part c d) (fin.entries p) (fin.entries_sorted p)
  where
    more : (o : Option ℤ) → is_among_firsts (ls ++ l ∷ []) o ≡ (is_among_firsts ls o || is_first (Some l) o)
    more None = refl
    more (Some q) = any_push (eq_by_cmp lit_cmp q) ls l

    share : (a b x : Bool) → ((a || b) && x) ≡ ((a && x) || (b && x))
    share true b true = refl
    share true true false = refl
    share true false false = refl
    share false true x = refl
    share false false x = refl

-- each part begins with one of the literals
pub begun_all : (p : ClauseMap) (c : LiteralSet) → least_begun p c (literals c) ≡ least_part p c
begun_all p c = λ i. slice_get (numbers_where (λ d. every d i) p) 0
  where
    begins : (ls : List ℤ) → list_all (holds c) ls ≡ true → is_among_firsts (literals c) (slice_get ls 0) ≡ true
    begins [] h = refl
    begins (l ∷ ls) h = sym (holds-literals c l) ∙ (and_parts (holds c l) (list_all (holds c) ls) h).0

    every : (d : LiteralSet) → (is_among_firsts (literals c) (first_of d) && is_part c d) ≡ is_part c d
    every d =
        elim (is_part c d) as (λ b. is_part c d ≡ b → (is_among_firsts (literals c) (first_of d) && b) ≡ b) [
          | true ↦ λ e. ap (λ b. b && true) (begins (literals d) e)
          | false ↦ λ e. none (is_among_firsts (literals c) (first_of d))
        ] refl
      where
        none : (b : Bool) → (b && false) ≡ false
        none true = refl
        none false = refl
