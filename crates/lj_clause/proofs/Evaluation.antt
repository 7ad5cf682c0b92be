-- The definitions over sets that are written as lists: each equals a function that computes.
use Rattle.std.proofs.Common.{◌≡◌, ap, refl, sym, ◌∙◌, ℕ, arith}
use Rattle.std.specs.Prelude.{ℤ, pos, neg_ℤ, int_lt, Bool, true, false, cond, not, ◌&&◌, ◌==◌, List, [], ◌∷◌, map, length, filter, is_some, Option, Some, None, option_map, unwrap_or}
use Rattle.std.specs.List.{list_any}
use Rattle.std.specs.Ordering.{eq_by_cmp, nat_cmp}
use Rattle.std.specs.declared.cmp.Ordering.{Ordering}
use Rattle.std.specs.declared.cmp.Ordering.TheVariants.{Less, Equal, Greater}
use Rattle.std.specs.Cmp.{nat_cmp_total}
use Rattle.std.specs.FinMap as fin
use Rattle.std.specs.FinMap.Entries.{put, find, by_order}
use Rattle.lj_clause.specs.Literal.{lit_cmp}
use Rattle.lj_clause.specs.inner.Literal.{lit_cmp_total}
use Rattle.lj_clause.specs.LiteralSet.{LiteralSet, no_literals, holds, with_literal, literals, from_literals, with_negations, negations}
use Rattle.lj_clause.specs.Listed.{ListedClause, clause_of, listed_clauses}
use Rattle.lj_clause.specs.Propagation.{Propagation, Closed, Open, Stuck, Hint, rest, is_contradictory, by_rest, by_hint, propagate_over, hints_in, propagate}
use Rattle.lj_clause.specs.Rat.{HintGroup, NamedGroup, RatAnswer, Covered, groups_in, group_of, candidates, by_candidate, candidate_propagation, rat_over, rat}
use Rattle.lj_clause.proofs.LiteralSets.{holds-from_literals}

no_length : {A : Type 0} (es : List A) → length es ≡ 0 → es ≡ []
no_length [] e = refl
no_length (x ∷ es) e = absurd (omega arith)

pub entries-empty : {K : Type 0} (R : K → K → Ordering) (X : Type 0) → fin.entries (fin.empty {X = X} {R = R}) ≡ []
entries-empty R X = no_length _ (sym (fin.len-entries fin.empty) ∙ fin.len-empty R X)

-- the entries of a list, each put in its place
abbrev pub in_places : {K X : Type 0} → (K → K → Ordering) → List (K × X) → List (K × X)
in_places R [] = []
in_places R (e ∷ es) = put R e.0 e.1 (in_places R es)

pub entries-from_entries : {X : Type 0} (es : List (ℕ × X)) → fin.entries (fin.from_entries {R = nat_cmp} es) ≡ in_places nat_cmp es
entries-from_entries [] = entries-empty nat_cmp _
entries-from_entries (e ∷ es) = fin.entries-insert nat_cmp_total (fin.from_entries es) e.0 e.1 ∙ ap (put nat_cmp e.0 e.1) (entries-from_entries es)

abbrev pub in_order : List ℤ → List (ℤ × Unit {0})
in_order [] = []
in_order (l ∷ ls) = put lit_cmp l tt (in_order ls)

pub entries-from_literals : (ls : List ℤ) → fin.entries (from_literals ls) ≡ in_order ls
entries-from_literals [] = entries-empty lit_cmp _
entries-from_literals (l ∷ ls) = fin.entries-insert lit_cmp_total (from_literals ls) l tt ∙ ap (put lit_cmp l tt) (entries-from_literals ls)

abbrev pub listed : List ℤ → List ℤ
listed ls = map (λ (e : ℤ × Unit {0}). e.0) (in_order ls)

pub literals-listed : (ls : List ℤ) → literals (from_literals ls) ≡ listed ls
literals-listed ls = ap (map (λ (e : ℤ × Unit {0}). e.0)) (entries-from_literals ls)

abbrev pub among : List ℤ → ℤ → Bool
among ls q = list_any (eq_by_cmp lit_cmp q) ls

abbrev pub rest_listed : List ℤ → List ℤ → List ℤ
rest_listed d a = filter (λ l. not (among a (neg_ℤ l))) (listed d)

pub rest-listed : (d a : List ℤ) → rest (from_literals d) (from_literals a) ≡ rest_listed d a
rest-listed d a = λ i. filter (λ l. not (holds-from_literals a (neg_ℤ l) i)) (literals-listed d i)

abbrev pub contradictory_listed : List ℤ → Bool
contradictory_listed a = list_any (λ l. int_lt (pos 0) l && among a (neg_ℤ l)) (listed a)

pub contradictory-listed : (a : List ℤ) → is_contradictory (from_literals a) ≡ contradictory_listed a
contradictory-listed a = λ i. list_any (λ l. int_lt (pos 0) l && holds-from_literals a (neg_ℤ l) i) (literals-listed a i)

abbrev pub negations_listed : List ℤ → List ℤ → List ℤ
negations_listed a [] = a
negations_listed a (l ∷ ls) = neg_ℤ l ∷ negations_listed a ls

pub with_negations-listed : (a ls : List ℤ) → with_negations (from_literals a) ls ≡ from_literals (negations_listed a ls)
with_negations-listed a [] = refl
with_negations-listed a (l ∷ ls) = ap (λ s. with_literal s (neg_ℤ l)) (with_negations-listed a ls)

-- a hint whose clause is written as a list
abbrev pub ListedHint : Type 0
ListedHint = ℕ × Option (List ℤ)

abbrev pub hint_of : ListedHint → Hint
hint_of h = record { number = h.0; clause = option_map from_literals h.1 }

abbrev pub by_hint_listed : ℕ → Option (List ℤ) → List ℤ → (ℤ → Propagation) → Propagation
by_hint_listed n None a onward = Stuck 1
by_hint_listed n (Some d) a onward = by_rest n (rest_listed d a) onward

abbrev pub propagate_listed : List ℤ → List ListedHint → Propagation
propagate_listed a [] = cond (contradictory_listed a) (Closed []) (Open (from_literals a))
propagate_listed a (h ∷ hs) = cond (contradictory_listed a) (Closed []) (by_hint_listed h.0 h.1 a (λ l. propagate_listed (l ∷ a) hs))

by_hint-listed : (n : ℕ) (d : Option (List ℤ)) (a : List ℤ) (f g : ℤ → Propagation) → ((l : ℤ) → f l ≡ g l) → by_hint n (option_map from_literals d) (from_literals a) f ≡ by_hint_listed n d a g
by_hint-listed n None a f g e = refl
by_hint-listed n (Some d) a f g e = λ i. by_rest n (rest-listed d a i) (λ l. e l i)

pub propagate-listed : (a : List ℤ) (hs : List ListedHint) → propagate_over (from_literals a) (map hint_of hs) ≡ propagate_listed a hs
unfolding propagate_over
propagate-listed a [] = λ i. cond (contradictory-listed a i) (Closed []) (Open (from_literals a))
propagate-listed a (h ∷ hs) = λ i. cond (contradictory-listed a i) (Closed []) (by_hint-listed h.0 h.1 a (λ l. propagate_over (with_literal (from_literals a) l) (map hint_of hs)) (λ l. propagate_listed (l ∷ a) hs) (λ l. propagate-listed (l ∷ a) hs) i)

find-listed : (q : ℕ) (es : List ListedClause) → find nat_cmp q (map clause_of es) ≡ option_map from_literals (find nat_cmp q es)
find-listed q [] = refl
find-listed q (e ∷ es) = elim (eq_by_cmp nat_cmp q e.0) as (λ b. cond b (Some (from_literals e.1)) (find nat_cmp q (map clause_of es)) ≡ option_map from_literals (cond b (Some e.1) (find nat_cmp q es))) [ true ↦ refl | false ↦ find-listed q es ]

pub get-listed : (es : List ListedClause) (q : ℕ) → fin.get (listed_clauses es) q ≡ option_map from_literals (find nat_cmp q es)
get-listed es q = fin.get-from_entries nat_cmp_total (map clause_of es) q ∙ find-listed q es

abbrev pub hints_listed : List ListedClause → List ℕ → List ListedHint
hints_listed es numbers = map (λ n. (n, find nat_cmp n es)) numbers

pub hints-listed : (es : List ListedClause) (numbers : List ℕ) → hints_in (listed_clauses es) numbers ≡ map hint_of (hints_listed es numbers)
hints-listed es [] = refl
hints-listed es (n ∷ ns) = λ i. record { number = n; clause = get-listed es n i } ∷ hints-listed es ns i

-- a propagation over clauses that are written as lists
pub propagate-evaluated : (es : List ListedClause) (lemma : List ℤ) (numbers : List ℕ) → propagate (listed_clauses es) (negations (from_literals lemma)) numbers ≡ propagate_listed (negations_listed [] (listed lemma)) (hints_listed es numbers)
propagate-evaluated es lemma numbers =
    (λ i. propagate_over (with_negations no_literals (literals-listed lemma i)) (hints-listed es numbers i))
    ∙ ap (λ s. propagate_over s (map hint_of (hints_listed es numbers))) (with_negations-listed [] (listed lemma))
    ∙ propagate-listed (negations_listed [] (listed lemma)) (hints_listed es numbers)

abbrev ListedGroup : Type 0
ListedGroup = ℕ × List ListedHint

abbrev named_group : ListedGroup → NamedGroup
named_group g = record { candidate = g.0; hints = map hint_of g.1 }

abbrev groups_listed : List ListedClause → List HintGroup → List ListedGroup
groups_listed es groups = map (λ g. (g.candidate, hints_listed es g.hints)) groups

groups-listed : (es : List ListedClause) (groups : List HintGroup) → groups_in (listed_clauses es) groups ≡ map named_group (groups_listed es groups)
groups-listed es [] = refl
groups-listed es (g ∷ gs) = λ i. record { candidate = g.candidate; hints = hints-listed es g.hints i } ∷ groups-listed es gs i

abbrev group_listed : ℕ → List ListedGroup → Option (List ListedHint)
group_listed n [] = None
group_listed n (g ∷ gs) = cond (g.0 == n) (Some g.1) (group_listed n gs)

group-listed : (n : ℕ) (gs : List ListedGroup) → group_of n (map named_group gs) ≡ option_map (map hint_of) (group_listed n gs)
group-listed n [] = refl
group-listed n (g ∷ gs) = elim (g.0 == n) as (λ b. cond b (Some (map hint_of g.1)) (group_of n (map named_group gs)) ≡ option_map (map hint_of) (cond b (Some g.1) (group_listed n gs))) [ true ↦ refl | false ↦ group-listed n gs ]

abbrev others_listed : List ℤ → ℤ → List ℤ
others_listed d l = filter (λ m. not (eq_by_cmp lit_cmp m l)) (listed d)

abbrev rat_listed : List ℤ → ℤ → List ListedGroup → List ListedClause → RatAnswer
rat_listed a pivot groups [] = Covered []
rat_listed a pivot groups (e ∷ es) = by_candidate e.0 (is_some (group_listed e.0 groups)) (propagate_listed (negations_listed a (others_listed e.1 (neg_ℤ pivot))) (unwrap_or (group_listed e.0 groups) [])) (rat_listed a pivot groups es)

unwrapped : (o : Option (List ListedHint)) → unwrap_or (option_map (map hint_of) o) [] ≡ map hint_of (unwrap_or o [])
unwrapped None = refl
unwrapped (Some hs) = refl

is_some-mapped : (o : Option (List ListedHint)) → is_some (option_map (map hint_of) o) ≡ is_some o
is_some-mapped None = refl
is_some-mapped (Some hs) = refl

candidate-listed : (a : List ℤ) (pivot : ℤ) (d : List ℤ) (o : Option (List ListedHint)) → candidate_propagation (from_literals a) pivot (from_literals d) (option_map (map hint_of) o) ≡ propagate_listed (negations_listed a (others_listed d (neg_ℤ pivot))) (unwrap_or o [])
candidate-listed a pivot d o =
    (λ i. propagate_over (with_negations (from_literals a) (filter (λ m. not (eq_by_cmp lit_cmp m (neg_ℤ pivot))) (literals-listed d i))) (unwrapped o i))
    ∙ ap (λ s. propagate_over s (map hint_of (unwrap_or o []))) (with_negations-listed a (others_listed d (neg_ℤ pivot)))
    ∙ propagate-listed (negations_listed a (others_listed d (neg_ℤ pivot))) (unwrap_or o [])

rat-listed : (a : List ℤ) (pivot : ℤ) (groups : List ListedGroup) (es : List ListedClause) → rat_over (from_literals a) pivot (map named_group groups) (map clause_of es) ≡ rat_listed a pivot groups es
unfolding rat_over
rat-listed a pivot groups [] = refl
rat-listed a pivot groups (e ∷ es) =
    (λ i. by_candidate e.0 (is_some (group-listed e.0 groups i)) (candidate_propagation (from_literals a) pivot (from_literals e.1) (group-listed e.0 groups i)) (rat-listed a pivot groups es i))
    ∙ (λ i. by_candidate e.0 (is_some-mapped (group_listed e.0 groups) i) (candidate-listed a pivot e.1 (group_listed e.0 groups) i) (rat_listed a pivot groups es))

put-listed : (n : ℕ) (c : List ℤ) (es : List ListedClause) → put nat_cmp n (from_literals c) (map clause_of es) ≡ map clause_of (put nat_cmp n c es)
put-listed n c [] = refl
put-listed n c (e ∷ es) = elim (nat_cmp n e.0) as (λ r. by_order r ((n, from_literals c) ∷ clause_of e ∷ map clause_of es) ((e.0, from_literals c) ∷ map clause_of es) (clause_of e ∷ put nat_cmp n (from_literals c) (map clause_of es)) ≡ map clause_of (by_order r ((n, c) ∷ e ∷ es) ((e.0, c) ∷ es) (e ∷ put nat_cmp n c es))) [ Less ↦ refl | Equal ↦ refl | Greater ↦ ap (λ fs. clause_of e ∷ fs) (put-listed n c es) ]

places-listed : (es : List ListedClause) → in_places nat_cmp (map clause_of es) ≡ map clause_of (in_places nat_cmp es)
places-listed [] = refl
places-listed (e ∷ es) = ap (put nat_cmp e.0 (from_literals e.1)) (places-listed es) ∙ put-listed e.0 e.1 (in_places nat_cmp es)

filter-listed : (q : ℤ) (es : List ListedClause) → filter (λ (e : ℕ × LiteralSet). holds e.1 q) (map clause_of es) ≡ map clause_of (filter (λ e. among e.1 q) es)
filter-listed q [] = refl
filter-listed q (e ∷ es) =
    ap (λ b. cond b (clause_of e ∷ filter (λ (f : ℕ × LiteralSet). holds f.1 q) (map clause_of es)) (filter (λ (f : ℕ × LiteralSet). holds f.1 q) (map clause_of es))) (holds-from_literals e.1 q)
    ∙ elim (among e.1 q) as (λ b. cond b (clause_of e ∷ filter (λ (f : ℕ × LiteralSet). holds f.1 q) (map clause_of es)) (filter (λ (f : ℕ × LiteralSet). holds f.1 q) (map clause_of es)) ≡ map clause_of (cond b (e ∷ filter (λ (f : ListedClause). among f.1 q) es) (filter (λ (f : ListedClause). among f.1 q) es))) [
      | true ↦ ap (λ fs. clause_of e ∷ fs) (filter-listed q es)
      | false ↦ filter-listed q es
    ]

abbrev candidates_listed : List ListedClause → ℤ → List ListedClause
candidates_listed es pivot = filter (λ e. among e.1 (neg_ℤ pivot)) (in_places nat_cmp es)

candidates-listed : (es : List ListedClause) (pivot : ℤ) → candidates (listed_clauses es) pivot ≡ map clause_of (candidates_listed es pivot)
candidates-listed es pivot = ap (filter (λ (e : ℕ × LiteralSet). holds e.1 (neg_ℤ pivot))) (entries-from_entries (map clause_of es) ∙ places-listed es) ∙ filter-listed (neg_ℤ pivot) (in_places nat_cmp es)

-- the test of the candidates in a map that is written as a list
pub rat-evaluated : (es : List ListedClause) (lemma : List ℤ) (pivot : ℤ) (groups : List HintGroup) → rat (listed_clauses es) (negations (from_literals lemma)) pivot groups ≡ rat_listed (negations_listed [] (listed lemma)) pivot (groups_listed es groups) (candidates_listed es pivot)
rat-evaluated es lemma pivot groups =
    (λ i. rat_over (with_negations no_literals (literals-listed lemma i)) pivot (groups-listed es groups i) (candidates-listed es pivot i))
    ∙ ap (λ s. rat_over s pivot (map named_group (groups_listed es groups)) (map clause_of (candidates_listed es pivot))) (with_negations-listed [] (listed lemma))
    ∙ rat-listed (negations_listed [] (listed lemma)) pivot (groups_listed es groups) (candidates_listed es pivot)
