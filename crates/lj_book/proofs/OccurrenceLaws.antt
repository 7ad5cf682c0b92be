-- What occurrence lists keep, and what is found in them.
use Rattle.std.proofs.Common.{◌≡◌, ap, refl, sym, ◌∙◌, inl, inr, subst, ℕ, zero, suc, ◌+◌, ◌<◌, ◌≤◌, Bool, cond, true, false, arith, take, get_or}
use Rattle.std.specs.Prelude.{T, ℤ, pos, negsuc, List, [], ◌∷◌, ◌++◌, map, filter, length, Option, Some, None, is_some, IfSome, ◌==◌, ◌||◌, ◌&&◌, nat_lt, slice_get}
use Rattle.std.specs.List.{AllByRecursion, list_any}
use Rattle.std.specs.List.Sorted.{IsStrictlySortedBy}
use Rattle.std.proofs.lemmas.Bool.{false≢true, or_cases, or_left, or_right, eqb-true}
use Rattle.std.proofs.lemmas.Bool.Decides.{nat_tests}
use Rattle.std.proofs.lemmas.List.{take_more}
use Rattle.std.proofs.lemmas.List.Kept.{IsStrictlySortedBy-filter}
use Rattle.std.specs.declared.cmp.Ordering.TheVariants.{Less}
use Rattle.std.specs.Ordering.{nat_cmp, eq_by_cmp}
use Rattle.std.specs.Cmp.{nat_cmp_total, unsigned_tied, second_so}
use Rattle.std.specs.FinMap as fin
use Rattle.std.specs.FinMap.Entries.{find, is_sorted, below_all}
use Rattle.lj_clause.specs.Literal.{index_of, lit_cmp}
use Rattle.lj_clause.specs.LiteralSet.{LiteralSet, holds, literals}
use Rattle.lj_clause.specs.ClauseMap.{ClauseMap}
use Rattle.lj_clause.proofs.LiteralSets.{holds-literals}
use Rattle.lj_clause.proofs.Tests.{left_of, right_of, turned}
use Rattle.lj_clause.proofs.SortedEntries.{none_below, less_not_equal, is_sorted-filter}
use Rattle.lj_book.specs.Tables.{is_among}
use Rattle.lj_book.specs.Lookup.{is_same, is_clause, numbers_where, numbers_holding, least_number}
use Rattle.lj_book.specs.inner.Occurrences.{Lists, keys_of, list_or_empty, list_at, put_if, AreOccurrences, AreListed, AreIndexed}
use Rattle.lj_book.proofs.TableLaws.{among_push}
use Rattle.lj_book.proofs.HistoryLaws.{among-filter, among_tied}
use Rattle.lj_book.proofs.DropLaws.{Rises-sorted, sorted-keys, same_rising}
use Rattle.lj_book.proofs.Parts.{same_clauses}

itself : (a : ℕ) → (a == a) ≡ true
itself a = grind (arith, nat_tests)

-- ---- one list changed

pub list-insert : (m : Lists) (place : ℕ) (ns : List ℕ) (k : ℕ) → list_at (fin.insert m place ns) k ≡ cond (k == place) ns (list_at m k)
list-insert m place ns k =
    ap list_or_empty (fin.get-insert nat_cmp_total m place ns k ∙ ap (λ b. cond b (Some ns) (fin.get m k)) (unsigned_tied k place))
    ∙ (elim (k == place) as (λ b. list_or_empty (cond b (Some ns) (fin.get m k)) ≡ cond b ns (list_at m k)) [ true ↦ refl | false ↦ refl ])

-- ---- a number put at the end

above_last : (x n : ℕ) (ns : List ℕ) → AllByRecursion (λ y. nat_cmp x y ≡ Less) ns → x < n → AllByRecursion (λ y. nat_cmp x y ≡ Less) (ns ++ n ∷ [])
above_last x n [] h lt = (less x n lt, tt)
  where
    less : (x n : ℕ) → x < n → nat_cmp x n ≡ Less
    less x n h = grind arith
above_last x n (y ∷ ns) h lt = (h.0, above_last x n ns h.1 lt)

rising_put : (ns : List ℕ) (n : ℕ) → IsStrictlySortedBy nat_cmp ns → ((q : ℕ) → is_among ns q ≡ true → q < n) → IsStrictlySortedBy nat_cmp (ns ++ n ∷ [])
unfolding IsStrictlySortedBy
rising_put [] n h below = (tt, tt)
rising_put (x ∷ ns) n h below =
    (above_last x n ns h.0 (below x (or_left (x == x) (is_among ns x) (itself x))), rising_put ns n h.1 (λ q e. below q (or_right (x == q) (is_among ns q) e)))

among_put : (b : Bool) (ns : List ℕ) (n q : ℕ) → is_among (put_if b ns n) q ≡ (is_among ns q || (b && (n == q)))
among_put true ns n q = among_push ns n q
among_put false ns n q = or_false (is_among ns q)
  where
    or_false : (b : Bool) → b ≡ (b || false)
    or_false true = refl
    or_false false = refl

rising_if : (b : Bool) (ns : List ℕ) (n : ℕ) → IsStrictlySortedBy nat_cmp ns → ((q : ℕ) → is_among ns q ≡ true → q < n) → IsStrictlySortedBy nat_cmp (put_if b ns n)
rising_if true ns n h below = rising_put ns n h below
rising_if false ns n h below = h

some_equal : {X : Type 0} {x y : X} → Some x ≡ Some y → x ≡ y
some_equal e = cc

-- the lists with the number of a new clause, which none of them has yet
pub clause_added : (m after : Lists) (clause later : ℕ → Option LiteralSet) (bound n : ℕ) (c : LiteralSet) → AreOccurrences m clause bound → bound ≤ n → ((k : ℕ) → list_at after k ≡ put_if (is_among (keys_of c) k) (list_at m k) n) → later n ≡ Some c → ((q : ℕ) → (n == q) ≡ false → later q ≡ clause q) → AreOccurrences after later (n + 1)
clause_added m after clause later bound n c are capacity is new others = record {
  rising = λ k. subst (IsStrictlySortedBy nat_cmp) (sym (is k)) (rising_if (is_among (keys_of c) k) (list_at m k) n (are.rising k) (λ q e. let b = are.below k q e in omega arith));
  below = λ k q e. elim (or_cases (is_among (list_at m k) q) (is_among (keys_of c) k && (n == q)) (sym (among k q) ∙ e)) [
    | inl there ↦ let b = are.below k q there in omega arith
    | inr last ↦ let b = eqb-true n q (second_so (is_among (keys_of c) k) (n == q) last) in omega arith
  ];
  exact = λ q d at k. among k q ∙ elim (n == q) as (λ b. (n == q) ≡ b → (is_among (list_at m k) q || (is_among (keys_of c) k && b)) ≡ is_among (keys_of d) k) [
    | true ↦ λ e.
        let here : n ≡ q = eqb-true n q e in
        let same : c ≡ d = some_equal (sym new ∙ ap later here ∙ at) in
        fresh (is_among (list_at m k) q) (is_among (keys_of c) k) (λ there. let b = are.below k q there in omega arith)
        ∙ ap (λ x. is_among (keys_of x) k) same
    | false ↦ λ e. never (is_among (list_at m k) q) (is_among (keys_of c) k) ∙ are.exact q d (sym (others q e) ∙ at) k
  ] refl;
}
  where
    among : (k q : ℕ) → is_among (list_at after k) q ≡ (is_among (list_at m k) q || (is_among (keys_of c) k && (n == q)))
    among k q = ap (λ ns. is_among ns q) (is k) ∙ among_put (is_among (keys_of c) k) (list_at m k) n q

    fresh : (a b : Bool) → (a ≡ true → ⊥) → (a || (b && true)) ≡ b
    fresh true b = λ no. absurd (no refl)
    fresh false true = λ no. refl
    fresh false false = λ no. refl

    never : (a b : Bool) → (a || (b && false)) ≡ a
    never true b = refl
    never false true = refl
    never false false = refl

-- ---- the lists of fewer clauses

pub fewer_clauses : (m : Lists) (clause fewer : ℕ → Option LiteralSet) (bound more : ℕ) → AreOccurrences m clause bound → bound ≤ more → ((q : ℕ) (d : LiteralSet) → fewer q ≡ Some d → clause q ≡ Some d) → AreOccurrences m fewer more
fewer_clauses m clause fewer bound more are le sub = record {
  rising = are.rising;
  below = λ k q e. let b = are.below k q e in omega arith;
  exact = λ q d at k. are.exact q d (sub q d at) k;
}

nothing_rises : IsStrictlySortedBy nat_cmp []
unfolding IsStrictlySortedBy
nothing_rises = tt

pub no_lists : AreOccurrences fin.empty (λ _. None) 0
no_lists = record {
  rising = λ k. subst (IsStrictlySortedBy nat_cmp) (sym (empty_at k)) nothing_rises;
  below = λ k q e. absurd (false≢true (ap (λ ns. is_among ns q) (sym (empty_at k)) ∙ e));
  exact = λ q d at k. absurd (false≢true (ap is_some at));
}
  where
    empty_at : (k : ℕ) → list_at fin.empty k ≡ []
    empty_at k = ap list_or_empty (fin.get-empty nat_cmp k)

-- ---- one list without numbers that have no clause

pub list_swept : (m : Lists) (clause : ℕ → Option LiteralSet) (bound place : ℕ) (ns : List ℕ) → AreOccurrences m clause bound → (IsStrictlySortedBy nat_cmp (list_at m place) → IsStrictlySortedBy nat_cmp ns) → ((q : ℕ) → is_some (clause q) ≡ true → is_among ns q ≡ is_among (list_at m place) q) → ((q : ℕ) → is_among ns q ≡ true → is_among (list_at m place) q ≡ true) → AreOccurrences (fin.insert m place ns) clause bound
list_swept m clause bound place ns are rises keeps fewer = record {
  rising = λ k. subst (IsStrictlySortedBy nat_cmp) (sym (list-insert m place ns k)) (elim (k == place) as (λ b. (k == place) ≡ b → IsStrictlySortedBy nat_cmp (cond b ns (list_at m k))) [
    | true ↦ λ e. rises (are.rising place)
    | false ↦ λ e. are.rising k
  ] refl);
  below = λ k q e. elim (k == place) as (λ b. (k == place) ≡ b → is_among (cond b ns (list_at m k)) q ≡ true → q < bound) [
    | true ↦ λ h there. are.below place q (fewer q there)
    | false ↦ λ h there. are.below k q there
  ] refl (ap (λ xs. is_among xs q) (sym (list-insert m place ns k)) ∙ e);
  exact = λ q d at k. ap (λ xs. is_among xs q) (list-insert m place ns k) ∙ elim (k == place) as (λ b. (k == place) ≡ b → is_among (cond b ns (list_at m k)) q ≡ is_among (keys_of d) k) [
    | true ↦ λ h. keeps q (ap is_some at) ∙ are.exact q d at place ∙ ap (is_among (keys_of d)) (sym (eqb-true k place h))
    | false ↦ λ h. are.exact q d at k
  ] refl;
}

-- ---- the places of a clause, one after another

abbrev keys_in : List (ℤ × Unit {0}) → List ℤ
keys_in es = map (λ e. e.0) es

below_at : (x : ℤ) (es : List (ℤ × Unit {0})) (i : ℕ) (d : ℤ) → T (below_all lit_cmp x es) → i < length (keys_in es) → (index_of x == index_of (get_or (keys_in es) i d)) ≡ false
below_at x [] i d h lt = absurd (omega arith)
below_at x (e ∷ es) zero d h lt = sym (unsigned_tied (index_of x) (index_of e.0)) ∙ less_not_equal (lit_cmp x e.0) (left_of _ _ h)
below_at x (e ∷ es) (suc i) d h lt = below_at x es i d (right_of _ _ h) (grind arith)

fresh_place : (es : List (ℤ × Unit {0})) (i : ℕ) (d : ℤ) → T (is_sorted lit_cmp es) → i < length (keys_in es) → is_among (map index_of (take i (keys_in es))) (index_of (get_or (keys_in es) i d)) ≡ false
fresh_place [] i d h lt = absurd (omega arith)
fresh_place (e ∷ es) zero d h lt = refl
fresh_place (e ∷ es) (suc i) d h lt =
    ap (λ b. b || is_among (map index_of (take i (keys_in es))) (index_of (get_or (keys_in es) i d))) (below_at e.0 es i d (left_of _ _ h) (grind arith))
    ∙ fresh_place es i d (right_of _ _ h) (grind arith)

map-push : (ls : List ℤ) (l : ℤ) → map index_of (ls ++ l ∷ []) ≡ map index_of ls ++ index_of l ∷ []
map-push [] l = refl
map-push (x ∷ ls) l = ap (λ ks. index_of x ∷ ks) (map-push ls l)

-- the places of one literal more
ranges-more : (ls : List ℤ) (i : ℕ) (d : ℤ) (k : ℕ) → i < length ls → is_among (map index_of (take (i + 1) ls)) k ≡ (is_among (map index_of (take i ls)) k || (index_of (get_or ls i d) == k))
ranges-more ls i d k lt =
    ap (λ xs. is_among (map index_of xs) k) (take_more ls i d lt)
    ∙ ap (λ xs. is_among xs k) (map-push (take i ls) (get_or ls i d))
    ∙ among_push (map index_of (take i ls)) (index_of (get_or ls i d)) k

-- of literals each of which stands there once: the lists where the number stands under the places of the first of them,
-- and of one more
abbrev IsPlaceAdded : List ℤ → Type 0
IsPlaceAdded ls = (m now after : Lists) (i n : ℕ) (d : ℤ) → i < length ls → ((k : ℕ) → list_at now k ≡ put_if (is_among (map index_of (take i ls)) k) (list_at m k) n) → after ≡ fin.insert now (index_of (get_or ls i d)) (list_at now (index_of (get_or ls i d)) ++ n ∷ []) → (k : ℕ) → list_at after k ≡ put_if (is_among (map index_of (take (i + 1) ls)) k) (list_at m k) n

place_added : (c : LiteralSet) → IsPlaceAdded (literals c)
place_added c m now after i n d lt before is k =
    let place = index_of (get_or (literals c) i d) in
    let fresh : is_among (map index_of (take i (literals c))) place ≡ false = fresh_place (fin.entries c) i d (fin.entries_sorted c) lt in
    ap (λ (x : Lists). list_at x k) is
    ∙ list-insert now place (list_at now place ++ n ∷ []) k
    ∙ (elim (k == place) as (λ b. (k == place) ≡ b → cond b (list_at now place ++ n ∷ []) (list_at now k) ≡ put_if (is_among (map index_of (take i (literals c))) k || b) (list_at m k) n) [
      | true ↦ λ e.
          let here : k ≡ place = eqb-true k place e in
          ap (λ ns. ns ++ n ∷ []) (before place ∙ ap (λ b. put_if b (list_at m place) n) fresh ∙ ap (list_at m) (sym here))
          ∙ sym (ap (λ b. put_if b (list_at m k) n) (or_true (is_among (map index_of (take i (literals c))) k)))
      | false ↦ λ e. before k ∙ sym (ap (λ b. put_if b (list_at m k) n) (or_false (is_among (map index_of (take i (literals c))) k)))
    ]) refl
    ∙ ap (λ b. put_if b (list_at m k) n) (ap (λ b. is_among (map index_of (take i (literals c))) k || b) (turned k place) ∙ sym (ranges-more (literals c) i d k lt))
  where
    or_true : (b : Bool) → (b || true) ≡ true
    or_true true = refl
    or_true false = refl

    or_false : (b : Bool) → (b || false) ≡ b
    or_false true = refl
    or_false false = refl

pub literal_added : (c : LiteralSet) (ls : List ℤ) → ls ≡ literals c → IsPlaceAdded ls
literal_added c ls is = subst IsPlaceAdded (sym is) (place_added c)

-- each literal's place is among them
pub place_among : (ls : List ℤ) (i : ℕ) (d : ℤ) → i < length ls → is_among (map index_of ls) (index_of (get_or ls i d)) ≡ true
place_among [] i d lt = absurd (omega arith)
place_among (l ∷ ls) zero d lt = or_left (index_of l == index_of l) (is_among (map index_of ls) (index_of l)) (itself (index_of l))
place_among (l ∷ ls) (suc i) d lt = or_right (index_of l == index_of (get_or ls i d)) (is_among (map index_of ls) (index_of (get_or ls i d))) (place_among ls i d (grind arith))

pub one_place : (c : LiteralSet) → (length (literals c) == 0) ≡ true → keys_of c ≡ 1 ∷ []
one_place c h = ap (λ b. cond b (1 ∷ []) (map index_of (literals c))) h

pub only_place : (c : LiteralSet) (m after : Lists) (n : ℕ) → (length (literals c) == 0) ≡ true → after ≡ fin.insert m 1 (list_at m 1 ++ n ∷ []) → (k : ℕ) → list_at after k ≡ put_if (is_among (keys_of c) k) (list_at m k) n
only_place c m after n none is k =
    ap (λ (x : Lists). list_at x k) is
    ∙ list-insert m 1 (list_at m 1 ++ n ∷ []) k
    ∙ (elim (k == 1) as (λ b. (k == 1) ≡ b → cond b (list_at m 1 ++ n ∷ []) (list_at m k) ≡ put_if (b || false) (list_at m k) n) [
      | true ↦ λ e. ap (λ p. list_at m p ++ n ∷ []) (sym (eqb-true k 1 e))
      | false ↦ λ e. refl
    ]) refl
    ∙ ap (λ b. put_if b (list_at m k) n) (ap (λ b. b || false) (turned k 1) ∙ ap (λ ks. is_among ks k) (sym (one_place c none)))

-- ---- what is found

abbrev pub passes : (LiteralSet → Bool) → Option LiteralSet → Bool
passes test None = false
passes test (Some c) = test c

among_where : (test : LiteralSet → Bool) (es : List (ℕ × LiteralSet)) (q : ℕ) → T (is_sorted nat_cmp es) → is_among (map (λ e. e.0) (filter (λ e. test e.1) es)) q ≡ passes test (find nat_cmp q es)
among_where test [] q h = refl
among_where test (e ∷ es) q h =
    elim (eq_by_cmp nat_cmp q e.0) as (λ b. eq_by_cmp nat_cmp q e.0 ≡ b → is_among (map (λ (f : ℕ × LiteralSet). f.0) (filter (λ f. test f.1) (e ∷ es))) q ≡ passes test (cond b (Some e.1) (find nat_cmp q es))) [
      | true ↦ λ t.
          let here : e.0 ≡ q = sym (eqb-true q e.0 (sym (unsigned_tied q e.0) ∙ t)) in
          let gone : passes test (find nat_cmp q es) ≡ false = ap (λ n. passes test (find nat_cmp n es)) (sym here) ∙ ap (passes test) (none_below e.0 es (left_of _ _ h)) in
          elim (test e.1) as (λ b. is_among (map (λ (f : ℕ × LiteralSet). f.0) (cond b (e ∷ filter (λ f. test f.1) es) (filter (λ f. test f.1) es))) q ≡ b) [
            | true ↦ or_left (e.0 == q) (is_among (map (λ (f : ℕ × LiteralSet). f.0) (filter (λ f. test f.1) es)) q) (ap (λ n. n == q) here ∙ itself q)
            | false ↦ among_where test es q (right_of _ _ h) ∙ gone
          ]
      | false ↦ λ t.
          let apart : (e.0 == q) ≡ false = turned e.0 q ∙ sym (unsigned_tied q e.0) ∙ t in
          elim (test e.1) as (λ b. is_among (map (λ (f : ℕ × LiteralSet). f.0) (cond b (e ∷ filter (λ f. test f.1) es) (filter (λ f. test f.1) es))) q ≡ passes test (find nat_cmp q es)) [
            | true ↦ ap (λ b. b || is_among (map (λ (f : ℕ × LiteralSet). f.0) (filter (λ f. test f.1) es)) q) apart ∙ among_where test es q (right_of _ _ h)
            | false ↦ among_where test es q (right_of _ _ h)
          ]
    ] refl

-- a rising list of just the numbers whose clause passes the test
pub found_all : (p : ClauseMap) (test : LiteralSet → Bool) (ns : List ℕ) → IsStrictlySortedBy nat_cmp ns → ((q : ℕ) → is_among ns q ≡ passes test (fin.get p q)) → ns ≡ numbers_where test p
found_all p test ns rising is =
    same_rising ns (numbers_where test p) (Rises-sorted ns rising)
    (subst T (sym (sorted-keys (filter (λ e. test e.1) (fin.entries p)))) (is_sorted-filter (λ e. test e.1) (fin.entries p) (fin.entries_sorted p)))
    (λ q. is q ∙ ap (passes test) (fin.get-entries p q) ∙ sym (among_where test (fin.entries p) q (fin.entries_sorted p)))

any-ranges : (q : ℤ) (ls : List ℤ) → list_any (eq_by_cmp nat_cmp (index_of q)) (map index_of ls) ≡ list_any (eq_by_cmp lit_cmp q) ls
any-ranges q [] = refl
any-ranges q (l ∷ ls) = ap (λ b. eq_by_cmp lit_cmp q l || b) (any-ranges q ls)

no_literal : (ls : List ℤ) → (length ls == 0) ≡ true → ls ≡ []
no_literal [] h = refl
no_literal (l ∷ ls) h = absurd (grind (arith, nat_tests))

not_one : (l : ℤ) → (1 == index_of l) ≡ false
not_one l = elim l as (λ x. (1 == index_of x) ≡ false) [ pos n ↦ grind (arith, nat_tests) | negsuc n ↦ grind (arith, nat_tests) ]

-- a clause is listed under the place of a literal where it holds it
pub holds_place : (c : LiteralSet) (l : ℤ) → is_among (keys_of c) (index_of l) ≡ holds c l
holds_place c l =
    elim (length (literals c) == 0) as (λ b. (length (literals c) == 0) ≡ b → is_among (cond b (1 ∷ []) (map index_of (literals c))) (index_of l) ≡ holds c l) [
      | true ↦ λ e.
          ap (λ b. b || false) (not_one l)
          ∙ sym (holds-literals c l ∙ ap (list_any (eq_by_cmp lit_cmp l)) (no_literal (literals c) e))
      | false ↦ λ e. sym (among_tied (map index_of (literals c)) (index_of l)) ∙ any-ranges l (literals c) ∙ sym (holds-literals c l)
    ] refl

-- the numbers under a literal's place that have a clause
pub living_are : (m : Lists) (p : ClauseMap) (bound : ℕ) (l : ℤ) → AreOccurrences m (fin.get p) bound → filter (λ n. fin.contains_key p n) (list_at m (index_of l)) ≡ numbers_holding p l
living_are m p bound l are =
    found_all p (λ c. holds c l) (filter (λ n. fin.contains_key p n) (list_at m (index_of l)))
    (IsStrictlySortedBy-filter nat_cmp (λ n. fin.contains_key p n) (list_at m (index_of l)) (are.rising (index_of l)))
    (λ q. among-filter (λ n. fin.contains_key p n) (list_at m (index_of l)) q ∙ by q (fin.get p q) refl)
  where
    by : (q : ℕ) (o : Option LiteralSet) → fin.get p q ≡ o → (is_some o && is_among (list_at m (index_of l)) q) ≡ passes (λ c. holds c l) o
    by q None at = refl
    by q (Some c) at = are.exact q c at (index_of l) ∙ holds_place c l

-- the first under a place of the clause is the least
pub first_is_least : (m : Lists) (p : ClauseMap) (bound place : ℕ) (c : LiteralSet) → AreOccurrences m (fin.get p) bound → is_among (keys_of c) place ≡ true → slice_get (filter (λ n. is_clause c (fin.get p n)) (list_at m place)) 0 ≡ least_number p c
first_is_least m p bound place c are there =
    ap (λ ns. slice_get ns 0) (found_all p (is_same c) (filter (λ n. is_clause c (fin.get p n)) (list_at m place))
    (IsStrictlySortedBy-filter nat_cmp (λ n. is_clause c (fin.get p n)) (list_at m place) (are.rising place))
    (λ q. among-filter (λ n. is_clause c (fin.get p n)) (list_at m place) q ∙ by q (fin.get p q) refl))
  where
    by : (q : ℕ) (o : Option LiteralSet) → fin.get p q ≡ o → (is_clause c o && is_among (list_at m place) q) ≡ passes (is_same c) o
    by q None at = refl
    by q (Some d) at =
        elim (is_same c d) as (λ b. is_same c d ≡ b → (b && is_among (list_at m place) q) ≡ b) [
          | true ↦ λ e. are.exact q d at place ∙ ap (λ x. is_among (keys_of x) place) (sym (same_clauses c d e)) ∙ there
          | false ↦ λ e. refl
        ] refl

-- ---- the lists of a map with one clause more

pub clause_listed : (m after : Lists) (p : ClauseMap) (bound n : ℕ) (c : LiteralSet) → AreOccurrences m (fin.get p) bound → bound ≤ n → ((k : ℕ) → list_at after k ≡ put_if (is_among (keys_of c) k) (list_at m k) n) → AreOccurrences after (fin.get (fin.insert p n c)) (n + 1)
clause_listed m after p bound n c are capacity is =
    clause_added m after (fin.get p) (fin.get (fin.insert p n c)) bound n c are capacity is
    (fin.get-insert nat_cmp_total p n c n ∙ ap (λ b. cond b (Some c) (fin.get p n)) (unsigned_tied n n ∙ itself n))
    (λ q e. fin.get-insert nat_cmp_total p n c q ∙ ap (λ b. cond b (Some c) (fin.get p q)) (unsigned_tied q n ∙ turned q n ∙ e))

-- the clauses of the numbers below this one
abbrev pub clauses_below : ClauseMap → ℕ → ℕ → Option LiteralSet
clauses_below p n q = cond (nat_lt q n) (fin.get p q) None

pub none_yet : (p : ClauseMap) (m : Lists) → m ≡ fin.empty → AreOccurrences m (clauses_below p 0) 0
none_yet p m is = fewer_clauses m (λ _. None) (clauses_below p 0) 0 0 (subst (λ (x : Lists). AreOccurrences x (λ _. None) 0) (sym is) no_lists) (omega arith) (λ q d at. absurd (false≢true (ap is_some (sym (ap (λ b. cond b (fin.get p q) None) (below_none q)) ∙ at))))
  where
    below_none : (q : ℕ) → nat_lt q 0 ≡ false
    below_none q = grind (arith, nat_tests)

pub next_listed : (p : ClauseMap) (m after : Lists) (n : ℕ) (c : LiteralSet) → AreOccurrences m (clauses_below p n) n → fin.get p n ≡ Some c → ((k : ℕ) → list_at after k ≡ put_if (is_among (keys_of c) k) (list_at m k) n) → AreOccurrences after (clauses_below p (n + 1)) (n + 1)
next_listed p m after n c are at is =
    clause_added m after (clauses_below p n) (clauses_below p (n + 1)) n n c are (omega arith) is
    (ap (λ b. cond b (fin.get p n) None) (now_below n) ∙ at)
    (λ q e. ap (λ b. cond b (fin.get p q) None) (as_before q n e))
  where
    now_below : (n : ℕ) → nat_lt n (n + 1) ≡ true
    now_below n = grind (arith, nat_tests)

    as_before : (q n : ℕ) → (n == q) ≡ false → nat_lt q (n + 1) ≡ nat_lt q n
    as_before q n e = grind (arith, nat_tests)

pub next_passed : (p : ClauseMap) (m : Lists) (n : ℕ) → AreOccurrences m (clauses_below p n) n → fin.get p n ≡ None → AreOccurrences m (clauses_below p (n + 1)) (n + 1)
next_passed p m n are none = fewer_clauses m (clauses_below p n) (clauses_below p (n + 1)) n (n + 1) are (omega arith) (λ q d at.
    elim (n == q) as (λ b. (n == q) ≡ b → clauses_below p n q ≡ Some d) [
      | true ↦ λ e. absurd (false≢true (ap is_some (sym none ∙ ap (fin.get p) (eqb-true n q e)) ∙ ap is_some (inside (nat_lt q (n + 1)) (fin.get p q) d at)))
      | false ↦ λ e. ap (λ b. cond b (fin.get p q) None) (sym (as_before q n e)) ∙ at
    ] refl)
  where
    inside : (b : Bool) (o : Option LiteralSet) (d : LiteralSet) → cond b o None ≡ Some d → o ≡ Some d
    inside true o d h = h
    inside false o d h = absurd (false≢true (ap is_some h))

    as_before : (q n : ℕ) → (n == q) ≡ false → nat_lt q (n + 1) ≡ nat_lt q n
    as_before q n e = grind (arith, nat_tests)

pub all_listed : (p : ClauseMap) (m : Lists) (n end : ℕ) → AreOccurrences m (clauses_below p n) n → n ≡ end → ((q : ℕ) → fin.contains_key p q ≡ true → q < end) → AreOccurrences m (fin.get p) end
all_listed p m n end are is given = fewer_clauses m (clauses_below p n) (fin.get p) n end are (omega arith) (λ q d at.
    ap (λ b. cond b (fin.get p q) None) (within q n (let b = given q (ap is_some at) in omega arith)) ∙ at)
  where
    within : (q n : ℕ) → q < n → nat_lt q n ≡ true
    within q n h = grind (arith, nat_tests)

-- ---- what is kept beside the clauses

if_some : {X : Type 0} (o : Option X) (P Q : X → Type 0) → ((x : X) → P x → Q x) → IfSome o P → IfSome o Q
if_some None P Q f h = tt
if_some (Some x) P Q f h = f x h

-- no lists, whatever the last number is
pub Indexed-none : (lists : Option Lists) (p q : ClauseMap) (last : ℕ) → AreIndexed lists p last → q ≡ p → AreIndexed None q last
Indexed-none lists p q last are is = record {
  given = λ n there. are.given n (ap (λ (m : ClauseMap). fin.contains_key m n) (sym is) ∙ there);
  listed = tt;
}

pub Indexed-insert : (before lists : Option Lists) (p after : ClauseMap) (last next n : ℕ) (c : LiteralSet) → AreIndexed before p last → after ≡ fin.insert p n c → AreListed lists (fin.insert p n c) (n + 1) → last ≤ next → n ≤ next → AreIndexed lists after next
Indexed-insert before lists p after last next n c are is listed le new = record {
  given = λ q there. elim (n == q) as (λ b. (n == q) ≡ b → q ≤ next) [
    | true ↦ λ e. let same = eqb-true n q e in omega arith
    | false ↦ λ e. let old = are.given q (ap is_some (sym (ap (λ (m : ClauseMap). fin.get m q) is ∙ fin.get-insert nat_cmp_total p n c q ∙ ap (λ b. cond b (Some c) (fin.get p q)) (unsigned_tied q n ∙ turned q n ∙ e))) ∙ there) in omega arith
  ] refl;
  listed = if_some lists _ _ (λ m at. fewer_clauses m (fin.get (fin.insert p n c)) (fin.get after) (n + 1) (next + 1) at (omega arith) (λ q d e. ap (λ (x : ClauseMap). fin.get x q) (sym is) ∙ e)) listed;
}

pub removed_get : (p : ClauseMap) (n q : ℕ) (d : LiteralSet) → fin.get (fin.remove p n) q ≡ Some d → fin.get p q ≡ Some d
removed_get p n q d h = inside (eq_by_cmp nat_cmp q n) (fin.get p q) d (sym (fin.get-remove nat_cmp_total p n q) ∙ h)
  where
    inside : (b : Bool) (o : Option LiteralSet) (d : LiteralSet) → cond b None o ≡ Some d → o ≡ Some d
    inside true o d h = absurd (false≢true (ap is_some h))
    inside false o d h = h

some_there : {X : Type 0} (o : Option X) → is_some o ≡ true → (x : X) × (o ≡ Some x)
some_there None h = absurd (false≢true h)
some_there (Some x) h = (x, refl)

-- the lists as they were, with a clause less
pub listed_without : (lists : Option Lists) (p : ClauseMap) (last n : ℕ) → AreIndexed lists p last → AreListed lists (fin.remove p n) (last + 1)
listed_without lists p last n are = if_some lists _ _ (λ m at. fewer_clauses m (fin.get p) (fin.get (fin.remove p n)) (last + 1) (last + 1) at (omega arith) (λ q d e. removed_get p n q d e)) are.listed

pub Indexed-remove : (before lists : Option Lists) (p after : ClauseMap) (last n : ℕ) → AreIndexed before p last → after ≡ fin.remove p n → AreListed lists after (last + 1) → AreIndexed lists after last
Indexed-remove before lists p after last n are is listed = record {
  given = λ q there.
      let some = some_there (fin.get after q) there in
      are.given q (ap is_some (removed_get p n q some.0 (ap (λ (x : ClauseMap). fin.get x q) (sym is) ∙ some.1)));
  listed = listed;
}
