-- What a covered pivot gives: the same again from the recorded groups, and an assignment for the clause.
use Rattle.std.proofs.Common.{◌≡◌, ◌≢◌, ℕ, zero, suc, ap, refl, sym, subst, ◌∙◌, inl, inr, ◌⊎◌, length, take, arith}
use Rattle.std.specs.Prelude.{ℤ, pos, negsuc, neg_ℤ, Bool, true, false, not, cond, T, ◌==◌, ◌&&◌, List, [], ◌∷◌, map, filter, Some, None, is_some, unwrap_or}
use Rattle.std.specs.List.{list_any, list_all, AllByRecursion, AllZip}
use Rattle.std.specs.List.Sorted.{IsStrictlySortedBy, IsStrictlyIncreasing}
use Rattle.std.specs.Ordering.{eq_by_cmp, nat_cmp, is_lt, is_eq}
use Rattle.std.specs.declared.cmp.Ordering.TheVariants.{Less, Equal}
use Rattle.std.proofs.lemmas.Bool.{false≢true, both_ways, or_cases, or_from, and_from, false_from_ne_true, ne_eqb, eq-eqb, not-true}
use Rattle.std.proofs.lemmas.Map.Keys.{IsStrictlyIncreasing-from_sorted}
use Rattle.std.specs.Cmp.{Equal-is, tied_itself, nat_cmp_total}
use Rattle.std.specs.FinMap.{nat_cmp-IsAntisymmetric}
use lib.IntN.{neg_ℤ-neg_ℤ}
use Rattle.std.specs.FinMap as fin
use Rattle.std.specs.FinMap.Entries.{find, is_sorted, below_all}
use Rattle.lj_clause.specs.Literal.{lit_cmp, variable_of}
use Rattle.lj_clause.specs.LiteralSet.{LiteralSet, holds, literals, with_negations, negations}
use Rattle.lj_clause.specs.ClauseMap.{ClauseMap}
use Rattle.lj_clause.specs.Truth.{Assignment, is_true, satisfies, SatisfiesAll, IsSatisfiable}
use Rattle.lj_clause.specs.Propagation.{Propagation, Closed, Open, Stuck, hints_in, propagate_over, propagate}
use Rattle.lj_clause.specs.Rat.{HintGroup, groups_in, group_of, RatAnswer, Covered, MissingGroup, GroupStuck, GroupOpen, candidates, others, with_group, by_candidate, candidate_propagation, rat_over, rat}
use Rattle.lj_clause.specs.Laws.{hints_given, IsRecordedForm}
use Rattle.lj_clause.proofs.LiteralSets.{holds-literals}
use Rattle.lj_clause.proofs.Among.{among, itself, any_at, any_found, passed}
use Rattle.lj_clause.proofs.TruthLaws.{is_true-neg_ℤ, neg_nonzero, satisfies_by, true_literal, false_literal, holds-with_negations, SatisfiesAll-insert}
use Rattle.lj_clause.proofs.PropagationLaws.{AllTrue, not_all_true, all_true, AllTrue-negations, SatisfiesHints-hints_in, propagate-used, used-first, list_all-each, used-all_in}
use Rattle.lj_clause.proofs.Tests.{left_of, right_of}
use Rattle.lj_clause.proofs.SortedEntries.{is_less, is_sorted-filter, none_below}

-- ---- a covered pivot, candidate by candidate

-- the propagation of a candidate over the hints given for it
abbrev pub propagation_of : ClauseMap → LiteralSet → ℤ → List HintGroup → ℕ × LiteralSet → Propagation
propagation_of p s pivot groups e = propagate p (with_negations s (others e.1 (neg_ℤ pivot))) (hints_given e.0 groups)

-- the recorded group of a candidate: its number, and the hints that closed its propagation
pub record IsRecorded (p : ClauseMap) (s : LiteralSet) (pivot : ℤ) (groups : List HintGroup) (e : ℕ × LiteralSet) (g : HintGroup) : Type 0 where
  pub number : g.candidate ≡ e.0
  pub closes : propagation_of p s pivot groups e ≡ Closed g.hints

hints-group_of : (p : ClauseMap) (n : ℕ) (groups : List HintGroup) → unwrap_or (group_of n (groups_in p groups)) [] ≡ hints_in p (hints_given n groups)
hints-group_of p n [] = refl
hints-group_of p n (g ∷ gs) =
    elim (g.candidate == n) as (λ b. unwrap_or (cond b (Some (hints_in p g.hints)) (group_of n (groups_in p gs))) [] ≡ hints_in p (cond b g.hints (hints_given n gs))) [
      | true ↦ refl
      | false ↦ hints-group_of p n gs
    ]

propagation_of-candidate : (p : ClauseMap) (s : LiteralSet) (pivot : ℤ) (groups : List HintGroup) (e : ℕ × LiteralSet) → candidate_propagation s pivot e.1 (group_of e.0 (groups_in p groups)) ≡ propagation_of p s pivot groups e
propagation_of-candidate p s pivot groups e = ap (propagate_over (with_negations s (others e.1 (neg_ℤ pivot)))) (hints-group_of p e.0 groups)

-- what an answer that covers a candidate and those after it came from
record CoveredFirst (n : ℕ) (w : Propagation) (later : RatAnswer) (gs : List HintGroup) : Type 0 where
  used : List ℕ
  others_groups : List HintGroup
  closes : w ≡ Closed used
  covers : later ≡ Covered others_groups
  groups : gs ≡ record { candidate = n; hints = used } ∷ others_groups

same_groups : (xs ys : List HintGroup) → Covered xs ≡ Covered ys → xs ≡ ys
same_groups xs ys e = cc

first_group : (n : ℕ) (used : List ℕ) (later : RatAnswer) (gs : List HintGroup) → with_group n used later ≡ Covered gs → CoveredFirst n (Closed used) later gs
first_group n used (Covered groups) gs e = record { used = used; others_groups = groups; closes = refl; covers = refl; groups = sym (same_groups (record { candidate = n; hints = used } ∷ groups) gs e) }
first_group n used (MissingGroup m) gs e = cc
first_group n used (GroupStuck m position) gs e = cc
first_group n used (GroupOpen m) gs e = cc

covered_first : (n : ℕ) (has : Bool) (w : Propagation) (later : RatAnswer) (gs : List HintGroup) → by_candidate n has w later ≡ Covered gs → CoveredFirst n w later gs
covered_first n has (Closed used) later gs e = first_group n used later gs e
covered_first n true (Open a) later gs e = cc
covered_first n false (Open a) later gs e = cc
covered_first n true (Stuck position) later gs e = cc
covered_first n false (Stuck position) later gs e = cc

nothing_covers : (gs : List HintGroup) → Covered [] ≡ Covered gs → AllZip {A = ℕ × LiteralSet} (λ e g. ⊥) [] gs
nothing_covers [] e = tt
nothing_covers (g ∷ gs) e = cc

recorded_all : (p : ClauseMap) (s : LiteralSet) (pivot : ℤ) (groups : List HintGroup) (es : List (ℕ × LiteralSet)) (gs : List HintGroup) → rat_over s pivot (groups_in p groups) es ≡ Covered gs → AllZip (IsRecorded p s pivot groups) es gs
unfolding rat_over
recorded_all p s pivot groups [] [] e = tt
recorded_all p s pivot groups [] (g ∷ gs) e = cc
recorded_all p s pivot groups (c ∷ cs) gs e =
    let f = covered_first c.0 (is_some (group_of c.0 (groups_in p groups))) (candidate_propagation s pivot c.1 (group_of c.0 (groups_in p groups))) (rat_over s pivot (groups_in p groups) cs) gs e in
    subst (λ hs. AllZip (IsRecorded p s pivot groups) (c ∷ cs) hs) (sym f.groups) (
      record { number = refl; closes = sym (propagation_of-candidate p s pivot groups c) ∙ f.closes },
      recorded_all p s pivot groups cs f.others_groups f.covers,
    )

covers_all : (p : ClauseMap) (s : LiteralSet) (pivot : ℤ) (groups : List HintGroup) (es : List (ℕ × LiteralSet)) (gs : List HintGroup) → AllZip (IsRecorded p s pivot groups) es gs → rat_over s pivot (groups_in p groups) es ≡ Covered gs
unfolding rat_over
covers_all p s pivot groups [] [] h = refl
covers_all p s pivot groups [] (g ∷ gs) h = absurd h
covers_all p s pivot groups (c ∷ cs) [] h = absurd h
covers_all p s pivot groups (c ∷ cs) (g ∷ gs) h =
    λ i. by_candidate (sym h.0.number i) (is_some (group_of c.0 (groups_in p groups))) ((propagation_of-candidate p s pivot groups c ∙ h.0.closes) i) (covers_all p s pivot groups cs gs h.1 i)

-- a pivot is covered exactly by the groups that record each candidate
pub recorded-rat : (p : ClauseMap) (s : LiteralSet) (pivot : ℤ) (groups gs : List HintGroup) → rat p s pivot groups ≡ Covered gs → AllZip (IsRecorded p s pivot groups) (candidates p pivot) gs
recorded-rat p s pivot groups gs e = recorded_all p s pivot groups (candidates p pivot) gs e

pub rat-recorded : (p : ClauseMap) (s : LiteralSet) (pivot : ℤ) (groups gs : List HintGroup) → AllZip (IsRecorded p s pivot groups) (candidates p pivot) gs → rat p s pivot groups ≡ Covered gs
rat-recorded p s pivot groups gs h = covers_all p s pivot groups (candidates p pivot) gs h

-- ---- the recorded form

module _ {A B : Type 0} where
  zip_more : {R S : A → B → Type 0} (P : A → Type 0) (xs : List A) (ys : List B) → AllByRecursion P xs → AllZip R xs ys → ((x : A) (y : B) → P x → R x y → S x y) → AllZip S xs ys
  zip_more P [] [] ps h f = tt
  zip_more P [] (y ∷ ys) ps h f = absurd h
  zip_more P (x ∷ xs) [] ps h f = absurd h
  zip_more P (x ∷ xs) (y ∷ ys) ps h f = (f x y ps.0 h.0, zip_more P xs ys ps.1 h.1 f)

  zip_both : {R S U : A → B → Type 0} (xs : List A) (ys : List B) → AllZip R xs ys → AllZip S xs ys → ((x : A) (y : B) → R x y → S x y → U x y) → AllZip U xs ys
  zip_both [] [] g h f = tt
  zip_both [] (y ∷ ys) g h f = absurd h
  zip_both (x ∷ xs) [] g h f = absurd h
  zip_both (x ∷ xs) (y ∷ ys) g h f = (f x y g.0 h.0, zip_both xs ys g.1 h.1 f)

  zip_right : {R : A → B → Type 0} {P : B → Type 0} (xs : List A) (ys : List B) → AllZip R xs ys → ((x : A) (y : B) → R x y → P y) → AllByRecursion P ys
  zip_right [] [] h f = tt
  zip_right [] (y ∷ ys) h f = absurd h
  zip_right (x ∷ xs) [] h f = absurd h
  zip_right (x ∷ xs) (y ∷ ys) h f = (f x y h.0, zip_right xs ys h.1 f)

  zip_left : {R : A → B → Type 0} {P : A → Type 0} (xs : List A) (ys : List B) → AllZip R xs ys → ((x : A) (y : B) → R x y → P x) → AllByRecursion P xs
  zip_left [] [] h f = tt
  zip_left [] (y ∷ ys) h f = absurd h
  zip_left (x ∷ xs) [] h f = absurd h
  zip_left (x ∷ xs) (y ∷ ys) h f = (f x y h.0, zip_left xs ys h.1 f)

numbers_recorded : (p : ClauseMap) (s : LiteralSet) (pivot : ℤ) (groups : List HintGroup) (es : List (ℕ × LiteralSet)) (gs : List HintGroup) → AllZip (IsRecorded p s pivot groups) es gs → map (λ (g : HintGroup). g.candidate) gs ≡ map (λ (e : ℕ × LiteralSet). e.0) es
numbers_recorded p s pivot groups [] [] h = refl
numbers_recorded p s pivot groups [] (g ∷ gs) h = absurd h
numbers_recorded p s pivot groups (e ∷ es) [] h = absurd h
numbers_recorded p s pivot groups (e ∷ es) (g ∷ gs) h = λ i. h.0.number i ∷ numbers_recorded p s pivot groups es gs h.1 i

-- the recorded groups are those of the candidates, in their order
pub recorded-numbers : (p : ClauseMap) (s : LiteralSet) (pivot : ℤ) (groups gs : List HintGroup) → rat p s pivot groups ≡ Covered gs → map (λ (g : HintGroup). g.candidate) gs ≡ map (λ (e : ℕ × LiteralSet). e.0) (candidates p pivot)
recorded-numbers p s pivot groups gs e = numbers_recorded p s pivot groups (candidates p pivot) gs (recorded-rat p s pivot groups gs e)

-- the hints of each recorded group are the first of those given for its candidate
pub recorded-first : (p : ClauseMap) (s : LiteralSet) (pivot : ℤ) (groups gs : List HintGroup) → rat p s pivot groups ≡ Covered gs → AllByRecursion (λ (g : HintGroup). take (length g.hints) (hints_given g.candidate groups) ≡ g.hints) gs
recorded-first p s pivot groups gs e =
    zip_right (candidates p pivot) gs (recorded-rat p s pivot groups gs e) (λ c g h.
    ap (λ n. take (length g.hints) (hints_given n groups)) h.number
    ∙ used-first p (with_negations s (others c.1 (neg_ℤ pivot))) (hints_given c.0 groups) g.hints h.closes)

-- each number differs from those after it
abbrev Apart : List (ℕ × LiteralSet) → Type 0
Apart [] = Unit {0}
Apart (e ∷ es) = AllByRecursion (λ (f : ℕ × LiteralSet). (e.0 == f.0) ≡ false) es × Apart es

unequal : (m : ℕ) → nat_cmp m m ≡ Less → ⊥
unequal m h = let tied : Less ≡ Equal = sym h ∙ tied_itself nat_cmp_total m in cc

less_apart : (m n : ℕ) → T (is_lt (nat_cmp m n)) → (m == n) ≡ false
less_apart m n h = ne_eqb m n (λ e. unequal m (is_less (nat_cmp m m) (subst (λ k. T (is_lt (nat_cmp m k))) (sym e) h)))

below_apart : (n : ℕ) (es : List (ℕ × LiteralSet)) → T (below_all nat_cmp n es) → AllByRecursion (λ (f : ℕ × LiteralSet). (n == f.0) ≡ false) es
below_apart n [] h = tt
below_apart n (e ∷ es) h = (less_apart n e.0 (left_of _ _ h), below_apart n es (right_of _ _ h))

Apart-sorted : (es : List (ℕ × LiteralSet)) → T (is_sorted nat_cmp es) → Apart es
Apart-sorted [] h = tt
Apart-sorted (e ∷ es) h = (below_apart e.0 es (left_of _ _ h), Apart-sorted es (right_of _ _ h))

below_numbers : (n : ℕ) (es : List (ℕ × LiteralSet)) → T (below_all nat_cmp n es) → AllByRecursion (λ m. nat_cmp n m ≡ Less) (map (λ (e : ℕ × LiteralSet). e.0) es)
below_numbers n [] h = tt
below_numbers n (e ∷ es) h = (is_less (nat_cmp n e.0) (left_of _ _ h), below_numbers n es (right_of _ _ h))

rising_numbers : (es : List (ℕ × LiteralSet)) → T (is_sorted nat_cmp es) → IsStrictlySortedBy nat_cmp (map (λ (e : ℕ × LiteralSet). e.0) es)
unfolding IsStrictlySortedBy
rising_numbers [] h = tt
rising_numbers (e ∷ es) h = (below_numbers e.0 es (left_of _ _ h), rising_numbers es (right_of _ _ h))

is_sorted-candidates : (p : ClauseMap) (pivot : ℤ) → T (is_sorted nat_cmp (candidates p pivot))
is_sorted-candidates p pivot = is_sorted-filter (λ e. holds e.1 (neg_ℤ pivot)) (fin.entries p) (fin.entries_sorted p)

-- the candidates' numbers rise
pub candidates-sorted : (p : ClauseMap) (pivot : ℤ) → IsStrictlySortedBy nat_cmp (map (λ (e : ℕ × LiteralSet). e.0) (candidates p pivot))
candidates-sorted p pivot = rising_numbers (candidates p pivot) (is_sorted-candidates p pivot)

Apart-candidates : (p : ClauseMap) (pivot : ℤ) → Apart (candidates p pivot)
Apart-candidates p pivot = Apart-sorted (candidates p pivot) (is_sorted-candidates p pivot)

-- what recorded groups give for their candidates
given_back : (es : List (ℕ × LiteralSet)) (gs : List HintGroup) → Apart es → AllZip (λ (e : ℕ × LiteralSet) (g : HintGroup). g.candidate ≡ e.0) es gs → AllZip (λ (e : ℕ × LiteralSet) (g : HintGroup). hints_given e.0 gs ≡ g.hints) es gs
given_back [] [] apart h = tt
given_back [] (g ∷ gs) apart h = absurd h
given_back (e ∷ es) [] apart h = absurd h
given_back (e ∷ es) (g ∷ gs) apart h = (
  ap (λ b. cond b g.hints (hints_given e.0 gs)) (eq-eqb g.candidate e.0 h.0),
  zip_more (λ (f : ℕ × LiteralSet). (e.0 == f.0) ≡ false) es gs apart.0 (given_back es gs apart.1 h.1)
      (λ f k away is. ap (λ b. cond b g.hints (hints_given f.0 gs)) (ap (λ n. n == f.0) h.0 ∙ away) ∙ is),
)

-- the recorded groups cover the pivot in the same way
pub rat-again : (p : ClauseMap) (s : LiteralSet) (pivot : ℤ) (groups gs : List HintGroup) → rat p s pivot groups ≡ Covered gs → rat p s pivot gs ≡ Covered gs
rat-again p s pivot groups gs e =
    let es = candidates p pivot in
    let was = recorded-rat p s pivot groups gs e in
    let back = given_back es gs (Apart-candidates p pivot) (zip_both {U = λ (c : ℕ × LiteralSet) (g : HintGroup). g.candidate ≡ c.0} es gs was was (λ c g h _. h.number)) in
    rat-recorded p s pivot gs gs (zip_both es gs was back (λ c g h is. record {
      number = h.number;
      closes = ap (λ ns. propagate p (with_negations s (others c.1 (neg_ℤ pivot))) ns) is ∙ propagate-used p (with_negations s (others c.1 (neg_ℤ pivot))) (hints_given c.0 groups) g.hints h.closes;
    }))

-- the recorded groups of a covered pivot are in recorded form
pub IsRecordedForm-rat : (p : ClauseMap) (s : LiteralSet) (pivot : ℤ) (groups gs : List HintGroup) → rat p s pivot groups ≡ Covered gs → IsRecordedForm p s pivot groups gs
IsRecordedForm-rat p s pivot groups gs e = record {
  numbers = recorded-numbers p s pivot groups gs e;
  rising = subst IsStrictlyIncreasing (sym (recorded-numbers p s pivot groups gs e)) (IsStrictlyIncreasing-from_sorted (map (λ (c : ℕ × LiteralSet). c.0) (candidates p pivot)) (candidates-sorted p pivot));
  first_hints = recorded-first p s pivot groups gs e;
  covers = rat-again p s pivot groups gs e;
}

-- each candidate is a clause of the map that holds the pivot's negation
later_found : (q : ℕ) (e : ℕ × LiteralSet) (es : List (ℕ × LiteralSet)) (d : LiteralSet) → T (below_all nat_cmp e.0 es) → find nat_cmp q es ≡ Some d → find nat_cmp q (e ∷ es) ≡ Some d
later_found q e es d h is =
    elim (eq_by_cmp nat_cmp q e.0) as (λ b. eq_by_cmp nat_cmp q e.0 ≡ b → cond b (Some e.1) (find nat_cmp q es) ≡ Some d) [
      | true ↦ λ t. let none = none_below e.0 es h in let same : q ≡ e.0 = nat_cmp-IsAntisymmetric q e.0 ((Equal-is (nat_cmp q e.0)).0 t) in let gone : find nat_cmp q es ≡ None = ap (λ k. find nat_cmp k es) same ∙ none in cc
      | false ↦ λ t. is
    ] refl

all_weaker : {X : Type 0} (P Q : X → Type 0) (xs : List X) → ((x : X) → P x → Q x) → AllByRecursion P xs → AllByRecursion Q xs
all_weaker P Q [] f h = tt
all_weaker P Q (x ∷ xs) f h = (f x h.0, all_weaker P Q xs f h.1)

each_found : (es : List (ℕ × LiteralSet)) → T (is_sorted nat_cmp es) → AllByRecursion (λ (e : ℕ × LiteralSet). find nat_cmp e.0 es ≡ Some e.1) es
each_found [] h = tt
each_found (e ∷ es) h = (
  ap (λ r. cond (is_eq r) (Some e.1) (find nat_cmp e.0 es)) (tied_itself nat_cmp_total e.0),
  all_weaker (λ (f : ℕ × LiteralSet). find nat_cmp f.0 es ≡ Some f.1) (λ (f : ℕ × LiteralSet). find nat_cmp f.0 (e ∷ es) ≡ Some f.1) es (λ f is. later_found f.0 e es f.1 (left_of _ _ h) is) (each_found es (right_of _ _ h)),
)

both_filter : {X : Type 0} (P : X → Type 0) (test : X → Bool) (xs : List X) → AllByRecursion P xs → AllByRecursion (λ x. P x × (test x ≡ true)) (filter test xs)
both_filter P test [] h = tt
both_filter P test (x ∷ xs) h =
    elim (test x) as (λ b. test x ≡ b → AllByRecursion (λ y. P y × (test y ≡ true)) (cond b (x ∷ filter test xs) (filter test xs))) [
      | true ↦ λ e. ((h.0, e), both_filter P test xs h.1)
      | false ↦ λ e. both_filter P test xs h.1
    ] refl

pub candidates-get : (p : ClauseMap) (pivot : ℤ) → AllByRecursion (λ (e : ℕ × LiteralSet). (fin.get p e.0 ≡ Some e.1) × (holds e.1 (neg_ℤ pivot) ≡ true)) (candidates p pivot)
candidates-get p pivot =
    both_filter (λ (e : ℕ × LiteralSet). fin.get p e.0 ≡ Some e.1) (λ e. holds e.1 (neg_ℤ pivot)) (fin.entries p)
    (all_weaker (λ (e : ℕ × LiteralSet). find nat_cmp e.0 (fin.entries p) ≡ Some e.1) (λ (e : ℕ × LiteralSet). fin.get p e.0 ≡ Some e.1) (fin.entries p) (λ e is. fin.get-entries p e.0 ∙ is) (each_found (fin.entries p) (fin.entries_sorted p)))

key_of : (p : ClauseMap) (n : ℕ) (d : LiteralSet) → fin.get p n ≡ Some d → fin.contains_key p n ≡ true
key_of p n d e = ap is_some e

-- the recorded candidates and all their hints are in the map
pub recorded-all_in : (p : ClauseMap) (s : LiteralSet) (pivot : ℤ) (groups gs : List HintGroup) → rat p s pivot groups ≡ Covered gs → list_all (λ (g : HintGroup). fin.contains_key p g.candidate && list_all (fin.contains_key p) g.hints) gs ≡ true
recorded-all_in p s pivot groups gs e =
    list_all-each (λ (g : HintGroup). fin.contains_key p g.candidate && list_all (fin.contains_key p) g.hints) gs
    (zip_right (candidates p pivot) gs
    (zip_more {S = λ (c : ℕ × LiteralSet) (g : HintGroup). (fin.contains_key p g.candidate && list_all (fin.contains_key p) g.hints) ≡ true}
    (λ (c : ℕ × LiteralSet). (fin.get p c.0 ≡ Some c.1) × (holds c.1 (neg_ℤ pivot) ≡ true)) (candidates p pivot) gs (candidates-get p pivot) (recorded-rat p s pivot groups gs e)
    (λ c g got h. and_from (fin.contains_key p g.candidate) (list_all (fin.contains_key p) g.hints)
    (ap (fin.contains_key p) h.number ∙ key_of p c.0 c.1 got.0)
    (used-all_in p (with_negations s (others c.1 (neg_ℤ pivot))) (hints_given c.0 groups) g.hints h.closes)))
    (λ c g h. h))

-- the recorded candidates' numbers rise
pub recorded-sorted : (p : ClauseMap) (s : LiteralSet) (pivot : ℤ) (groups gs : List HintGroup) → rat p s pivot groups ≡ Covered gs → IsStrictlySortedBy nat_cmp (map (λ (g : HintGroup). g.candidate) gs)
recorded-sorted p s pivot groups gs e = subst (IsStrictlySortedBy nat_cmp) (sym (recorded-numbers p s pivot groups gs e)) (candidates-sorted p pivot)

-- a number below each of these isn't one of them
pub below_none : (n : ℕ) (ms : List ℕ) → AllByRecursion (λ m. nat_cmp n m ≡ Less) ms → list_any (λ m. m == n) ms ≡ false
below_none n [] h = refl
below_none n (m ∷ ms) h = or_from (m == n) (list_any (λ k. k == n) ms) (ne_eqb m n (λ e. absurd (unequal n (ap (nat_cmp n) (sym e) ∙ h.0)))) (below_none n ms h.1)

find_filter : (test : LiteralSet → Bool) (n : ℕ) (d : LiteralSet) (es : List (ℕ × LiteralSet)) → find nat_cmp n es ≡ Some d → test d ≡ true → find nat_cmp n (filter (λ e. test e.1) es) ≡ Some d
find_filter test n d [] h t = h
find_filter test n d (e ∷ es) h t =
    elim (eq_by_cmp nat_cmp n e.0) as (λ b. eq_by_cmp nat_cmp n e.0 ≡ b → cond b (Some e.1) (find nat_cmp n es) ≡ Some d → find nat_cmp n (cond (test e.1) (e ∷ filter (λ c. test c.1) es) (filter (λ c. test c.1) es)) ≡ Some d) [
      | true ↦ λ b is.
          let same : e.1 ≡ d = cc in
          ap (λ r. find nat_cmp n (cond r (e ∷ filter (λ c. test c.1) es) (filter (λ c. test c.1) es))) (ap test same ∙ t)
          ∙ ap (λ r. cond r (Some e.1) (find nat_cmp n (filter (λ c. test c.1) es))) b
          ∙ is
      | false ↦ λ b is.
          elim (test e.1) as (λ r. find nat_cmp n (cond r (e ∷ filter (λ c. test c.1) es) (filter (λ c. test c.1) es)) ≡ Some d) [
            | true ↦ ap (λ r. cond r (Some e.1) (find nat_cmp n (filter (λ c. test c.1) es))) b ∙ find_filter test n d es is t
            | false ↦ find_filter test n d es is t
          ]
    ] refl h

-- each clause of the map that holds the pivot's negation is a candidate
pub find-candidates : (p : ClauseMap) (pivot : ℤ) (n : ℕ) (d : LiteralSet) → fin.get p n ≡ Some d → holds d (neg_ℤ pivot) ≡ true → find nat_cmp n (candidates p pivot) ≡ Some d
find-candidates p pivot n d got h = find_filter (λ c. holds c (neg_ℤ pivot)) n d (fin.entries p) (sym (fin.get-entries p n) ∙ got) h

-- ---- the assignment flipped at the pivot's variable

-- the assignment with the other value at the literal's variable
abbrev pub flipped : Assignment → ℤ → Assignment
flipped a l v = cond (v == variable_of l) (not (a v)) (a v)

same_variable : (l m : ℤ) → variable_of m ≡ variable_of l → (m ≡ l) ⊎ (m ≡ neg_ℤ l)
same_variable (pos i) (pos j) e = inl (ap pos e)
same_variable (pos zero) (negsuc j) e = absurd (omega arith)
same_variable (pos (suc i)) (negsuc j) e = inr (ap negsuc (omega arith))
same_variable (negsuc i) (pos j) e = inr (ap pos e)
same_variable (negsuc i) (negsuc j) e = inl (ap negsuc (omega arith))

other_variable : (l m : ℤ) → m ≢ l → m ≢ neg_ℤ l → (variable_of m == variable_of l) ≡ false
other_variable l m g h = ne_eqb (variable_of m) (variable_of l) (λ e. elim (same_variable l m e) [ inl is ↦ g is | inr is ↦ h is ])

-- other literals stay as they are
pub is_true-flipped_other : (a : Assignment) (l m : ℤ) → m ≢ l → m ≢ neg_ℤ l → is_true (flipped a l) m ≡ is_true a m
is_true-flipped_other a l (pos zero) g h = refl
is_true-flipped_other a l (pos (suc i)) g h = ap (λ b. cond b (not (a (suc i))) (a (suc i))) (other_variable l (pos (suc i)) g h)
is_true-flipped_other a l (negsuc i) g h = ap (λ b. not (cond b (not (a (suc i))) (a (suc i)))) (other_variable l (negsuc i) g h)

-- the literal itself takes the other value
pub is_true-flipped : (a : Assignment) (l : ℤ) → l ≢ pos 0 → is_true (flipped a l) l ≡ not (is_true a l)
is_true-flipped a (pos zero) h = absurd (h refl)
is_true-flipped a (pos (suc i)) h = ap (λ b. cond b (not (a (suc i))) (a (suc i))) (eq-eqb (suc i) (suc i) refl)
is_true-flipped a (negsuc i) h = ap (λ b. not (cond b (not (a (suc i))) (a (suc i)))) (eq-eqb (suc i) (suc i) refl)

-- a clause with a true literal other than the pivot's negation stays satisfied
satisfies-flipped : (a : Assignment) (pivot : ℤ) (d : LiteralSet) (q : ℤ) → is_true a pivot ≡ false → holds d q ≡ true → is_true a q ≡ true → q ≢ neg_ℤ pivot → satisfies (flipped a pivot) d ≡ true
satisfies-flipped a pivot d q f h t away =
    satisfies_by (flipped a pivot) d q h (is_true-flipped_other a pivot q (λ e. both_ways (is_true a q) (ap (is_true a) e ∙ f) t) away ∙ t)

AllTrue-with_negations : (a : Assignment) (s : LiteralSet) (ls : List ℤ) → AllTrue a s → list_any (is_true a) ls ≡ false → AllTrue a (with_negations s ls)
AllTrue-with_negations a s ls all none m nonzero h =
    elim (or_cases (among (neg_ℤ m) ls) (holds s m) (sym (holds-with_negations s ls m) ∙ h)) [
      | inl e ↦
          let down : is_true a (neg_ℤ m) ≡ false = false_from_ne_true (is_true a (neg_ℤ m)) (λ t. both_ways (list_any (is_true a) ls) none (any_at (is_true a) (neg_ℤ m) ls e t)) in
          ap (is_true a) (sym (neg_ℤ-neg_ℤ m)) ∙ is_true-neg_ℤ a (neg_ℤ m) (neg_nonzero m nonzero) ∙ ap not down
      | inr e ↦ all m nonzero e
    ]

-- where the propagation of a candidate is closed, one of its other literals is true
other_true : (a : Assignment) (p : ClauseMap) (s : LiteralSet) (ls : List ℤ) (numbers used : List ℕ) → SatisfiesAll a p → AllTrue a s → propagate p (with_negations s ls) numbers ≡ Closed used → list_any (is_true a) ls ≡ true
other_true a p s ls numbers used all true_here e =
    elim (list_any (is_true a) ls) as (λ b. list_any (is_true a) ls ≡ b → b ≡ true) [
      | true ↦ λ f. refl
      | false ↦ λ f. absurd (not_all_true a (with_negations s ls) (hints_in p numbers) used e (SatisfiesHints-hints_in a p numbers all) (AllTrue-with_negations a s ls true_here f))
    ] refl

candidate_kept : (a : Assignment) (p : ClauseMap) (s : LiteralSet) (pivot : ℤ) (d : LiteralSet) (numbers used : List ℕ) → SatisfiesAll a p → AllTrue a s → is_true a pivot ≡ false → propagate p (with_negations s (others d (neg_ℤ pivot))) numbers ≡ Closed used → satisfies (flipped a pivot) d ≡ true
candidate_kept a p s pivot d numbers used all true_here f e =
    let found = any_found (is_true a) (others d (neg_ℤ pivot)) (other_true a p s (others d (neg_ℤ pivot)) numbers used all true_here e) in
    let q : ℤ = found.0 in
    let parts = passed (λ m. not (eq_by_cmp lit_cmp m (neg_ℤ pivot))) q (literals d) found.1 in
    satisfies-flipped a pivot d q f (holds-literals d q ∙ parts.0) found.2
    (λ is. both_ways (eq_by_cmp lit_cmp q (neg_ℤ pivot)) (not-true (eq_by_cmp lit_cmp q (neg_ℤ pivot)) parts.1) (ap (λ k. eq_by_cmp lit_cmp q k) (sym is) ∙ itself q))

other_kept : (a : Assignment) (pivot : ℤ) (d : LiteralSet) → is_true a pivot ≡ false → satisfies a d ≡ true → holds d (neg_ℤ pivot) ≡ false → satisfies (flipped a pivot) d ≡ true
other_kept a pivot d f h away =
    let found = true_literal a d h in
    satisfies-flipped a pivot d found.0 f found.1 found.2 (λ is. both_ways (holds d (neg_ℤ pivot)) away (ap (holds d) (sym is) ∙ found.1))

-- what holds of each entry that passes holds of what is found, if that passes
all_passing : {X : Type 0} (P : X → Type 0) (test : X → Bool) (xs : List X) → AllByRecursion P (filter test xs) → AllByRecursion (λ x. test x ≡ true → P x) xs
all_passing P test [] h = tt
all_passing P test (x ∷ xs) h =
    elim (test x) as (λ b. AllByRecursion P (cond b (x ∷ filter test xs) (filter test xs)) → (b ≡ true → P x) × AllByRecursion (λ y. test y ≡ true → P y) xs) [
      | true ↦ λ k. (λ _. k.0, all_passing P test xs k.1)
      | false ↦ λ k. (λ e. absurd (false≢true e), all_passing P test xs k)
    ] h

of_found : (P : LiteralSet → Type 0) (n : ℕ) (d : LiteralSet) (es : List (ℕ × LiteralSet)) → AllByRecursion (λ (e : ℕ × LiteralSet). P e.1) es → find nat_cmp n es ≡ Some d → P d
of_found P n d [] h e = cc
of_found P n d (c ∷ cs) h e =
    elim (eq_by_cmp nat_cmp n c.0) as (λ b. cond b (Some c.1) (find nat_cmp n cs) ≡ Some d → P d) [
      | true ↦ λ is. let same : c.1 ≡ d = cc in subst P same h.0
      | false ↦ λ is. of_found P n d cs h.1 is
    ] e

-- the flipped assignment satisfies the map, where the pivot is covered
pub SatisfiesAll-flipped : (a : Assignment) (p : ClauseMap) (s : LiteralSet) (pivot : ℤ) (groups gs : List HintGroup) → SatisfiesAll a p → AllTrue a s → is_true a pivot ≡ false → rat p s pivot groups ≡ Covered gs → SatisfiesAll (flipped a pivot) p
SatisfiesAll-flipped a p s pivot groups gs all true_here f e n d got =
    elim (holds d (neg_ℤ pivot)) as (λ b. holds d (neg_ℤ pivot) ≡ b → satisfies (flipped a pivot) d ≡ true) [
      | true ↦ λ h.
          of_found (λ c. holds c (neg_ℤ pivot) ≡ true → satisfies (flipped a pivot) c ≡ true) n d (fin.entries p)
          (all_passing (λ (c : ℕ × LiteralSet). satisfies (flipped a pivot) c.1 ≡ true) (λ c. holds c.1 (neg_ℤ pivot)) (fin.entries p)
          (zip_left (candidates p pivot) gs (recorded-rat p s pivot groups gs e) (λ c g r. candidate_kept a p s pivot c.1 (hints_given c.0 groups) g.hints all true_here f r.closes)))
          (sym (fin.get-entries p n) ∙ got) h
      | false ↦ λ h. other_kept a pivot d f (all n d got) h
    ] refl

-- some assignment satisfies the map with the clause, where its pivot is covered
pub IsSatisfiable-rat : (p : ClauseMap) (n : ℕ) (c : LiteralSet) (pivot : ℤ) (numbers : List ℕ) (s : LiteralSet) (groups gs : List HintGroup) → pivot ≢ pos 0 → holds c pivot ≡ true → propagate p (negations c) numbers ≡ Open s → rat p s pivot groups ≡ Covered gs → IsSatisfiable p → IsSatisfiable (fin.insert p n c)
IsSatisfiable-rat p n c pivot numbers s groups gs nonzero h ends covers some =
    let a : Assignment = some.0 in
    elim (satisfies a c) as (λ b. satisfies a c ≡ b → IsSatisfiable (fin.insert p n c)) [
      | true ↦ λ t. (a, SatisfiesAll-insert a p n c some.1 t)
      | false ↦ λ f.
          let down : is_true a pivot ≡ false = false_literal a c pivot f h in
          let true_here = all_true a (negations c) s (hints_in p numbers) ends (SatisfiesHints-hints_in a p numbers some.1) (AllTrue-negations a c f) in (
            flipped a pivot,
            SatisfiesAll-insert (flipped a pivot) p n c (SatisfiesAll-flipped a p s pivot groups gs some.1 true_here down covers)
                (satisfies_by (flipped a pivot) c pivot h (is_true-flipped a pivot nonzero ∙ ap not down)),
          )
    ] refl
