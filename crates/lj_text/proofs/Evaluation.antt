-- The definitions about steps over clauses that are written as lists: each equals a function that computes.
use Rattle.std.proofs.Common.{◌≡◌, ap, refl, ◌∙◌, ℕ, suc, zero}
use Rattle.std.specs.Prelude.{ℤ, Bool, true, false, cond, not, ◌&&◌, ◌||◌, ◌==◌, nat_le, List, [], ◌∷◌, ◌++◌, map, length, filter, filter_map, is_some, Option, Some, None, option_map}
use Rattle.std.specs.List.{list_any, list_all}
use Rattle.std.specs.Ordering.{nat_cmp, eq_by_cmp}
use Rattle.std.specs.Cmp.{nat_cmp_total}
use Rattle.std.specs.FinMap as fin
use Rattle.std.specs.FinMap.Entries.{find}
use Rattle.lj_clause.specs.LiteralSet.{from_literals}
use Rattle.lj_clause.specs.Lemma.{lemma_of}
use Rattle.lj_clause.specs.ClauseMap.{FormulaValue}
use Rattle.lj_clause.specs.Listed.{ListedClause, listed_clauses}
use Rattle.lj_clause.specs.Propagation.{Closed, is_closed}
use Rattle.lj_clause.specs.Rat.{HintGroup}
use Rattle.lj_clause.proofs.Evaluation.{get-listed, entries-from_literals, in_order, propagate_listed, propagate-evaluated, negations_listed, listed, hints_listed}
use Rattle.lj_clause.proofs.Tests.{marked}
use Rattle.lj_text.specs.declared.line.Addition.{Addition}
use Rattle.lj_text.specs.declared.step.Step.{Step}
use Rattle.lj_text.specs.declared.step.Step.TheVariants.{Add, Delete}
use Rattle.lj_text.specs.Steps.{names, is_in_place, are_distinct, is_accepted, adds_empty, first_propagation, is_rat_after}
use Rattle.lj_text.specs.Needed.{NumberSet, has, with_numbers, up_to_empty, additions, all_hints, pick, with_other, by_pick, closure, added_number, empty_numbers, trimmed_step, if_some, trimmed_steps}

is_some-mapped : {A B : Type 0} (f : A → B) (o : Option A) → is_some (option_map f o) ≡ is_some o
is_some-mapped f None = refl
is_some-mapped f (Some x) = refl

abbrev pub names_listed : List ListedClause → ℕ → Bool
names_listed es n = is_some (find nat_cmp n es)

pub names-listed : (es : List ListedClause) (n : ℕ) → names (listed_clauses es) n ≡ names_listed es n
names-listed es n = ap is_some (get-listed es n) ∙ is_some-mapped from_literals (find nat_cmp n es)

abbrev pub in_place_listed : List ListedClause → Addition → Bool
in_place_listed es a =
    not (names_listed es a.number) && (list_all (names_listed es) a.hints
    && (list_all (λ g. names_listed es g.candidate && list_all (names_listed es) g.hints) a.groups
    && are_distinct (map (λ g. g.candidate) a.groups)))

pub in_place-listed : (es : List ListedClause) (a : Addition) → is_in_place (listed_clauses es) a ≡ in_place_listed es a
in_place-listed es a = λ i.
    not (names-listed es a.number i) && (list_all (λ n. names-listed es n i) a.hints
    && (list_all (λ g. names-listed es g.candidate i && list_all (λ n. names-listed es n i) g.hints) a.groups
    && are_distinct (map (λ g. g.candidate) a.groups)))

-- an addition that isn't in place isn't accepted
pub not_in_place : (es : List ListedClause) (a : Addition) → in_place_listed es a ≡ false → is_accepted (listed_clauses es) (Add a) ≡ false
not_in_place es a e = λ i. (in_place-listed es a ∙ e) i && (is_closed (first_propagation (listed_clauses es) a) || is_rat_after (listed_clauses es) a (first_propagation (listed_clauses es) a))

pub len-listed : (ls : List ℤ) → fin.len (from_literals ls) ≡ length (in_order ls)
len-listed ls = fin.len-entries (from_literals ls) ∙ ap length (entries-from_literals ls)

abbrev written : ℕ → List ℤ → List ℕ → List HintGroup → Addition
written number lemma hints groups = record { number = number; lemma = lemma_of lemma; hints = hints; groups = groups }

-- an addition in place whose first list closes is accepted
pub closed_accepted : (es : List ListedClause) (n : ℕ) (ls : List ℤ) (hints : List ℕ) (groups : List HintGroup) (used : List ℕ) → in_place_listed es (written n ls hints groups) ≡ true → propagate_listed (negations_listed [] (listed ls)) (hints_listed es hints) ≡ Closed used → is_accepted (listed_clauses es) (Add (written n ls hints groups)) ≡ true
closed_accepted es n ls hints groups used here closed = λ i.
    (in_place-listed es (written n ls hints groups) ∙ here) i
    && (is_closed ((propagate-evaluated es ls hints ∙ closed) i) || is_rat_after (listed_clauses es) (written n ls hints groups) ((propagate-evaluated es ls hints ∙ closed) i))

pub deletion-listed : (es : List ListedClause) (ns : List ℕ) → is_accepted (listed_clauses es) (Delete ns) ≡ list_all (names_listed es) ns
deletion-listed es ns = λ i. list_all (λ n. names-listed es n i) ns

-- Steps whose lemmas are written as lists.
pub data ListedStep : Type 0 where
  Adds : ℕ → List ℤ → List ℕ → List HintGroup → ListedStep
  Deletes : List ℕ → ListedStep

abbrev pub step_of : ListedStep → Step
step_of (Adds n ls hints groups) = Add (written n ls hints groups)
step_of (Deletes ns) = Delete ns

abbrev adds_empty_listed : ListedStep → Bool
adds_empty_listed (Adds n ls hints groups) = length (in_order ls) == 0
adds_empty_listed (Deletes ns) = false

adds_empty-listed : (s : ListedStep) → adds_empty (step_of s) ≡ adds_empty_listed s
adds_empty-listed (Adds n ls hints groups) = ap (λ k. k == 0) (len-listed ls)
adds_empty-listed (Deletes ns) = refl

abbrev up_to_empty_listed : List ListedStep → List ListedStep
up_to_empty_listed [] = []
up_to_empty_listed (s ∷ ss) = cond (adds_empty_listed s) (s ∷ []) (s ∷ up_to_empty_listed ss)

up_to_empty-listed : (ss : List ListedStep) → up_to_empty (map step_of ss) ≡ map step_of (up_to_empty_listed ss)
up_to_empty-listed [] = refl
up_to_empty-listed (s ∷ ss) =
    (λ i. cond (adds_empty-listed s i) (step_of s ∷ []) (step_of s ∷ up_to_empty-listed ss i))
    ∙ elim (adds_empty_listed s) as (λ b. cond b (step_of s ∷ []) (step_of s ∷ map step_of (up_to_empty_listed ss)) ≡ map step_of (cond b (s ∷ []) (s ∷ up_to_empty_listed ss))) [ true ↦ refl | false ↦ refl ]

abbrev empty_numbers_listed : List ListedStep → List ℕ
empty_numbers_listed [] = []
empty_numbers_listed (s ∷ ss) = cond (adds_empty_listed s) (added_number (step_of s)) [] ++ empty_numbers_listed ss

empty_numbers-listed : (ss : List ListedStep) → empty_numbers (map step_of ss) ≡ empty_numbers_listed ss
empty_numbers-listed [] = refl
empty_numbers-listed (s ∷ ss) = λ i. cond (adds_empty-listed s i) (added_number (step_of s)) [] ++ empty_numbers-listed ss i

abbrev numbers_of : List ℕ → NumberSet
numbers_of ns = with_numbers fin.empty ns

abbrev has_listed : List ℕ → ℕ → Bool
has_listed ns n = list_any (eq_by_cmp nat_cmp n) ns

has-listed : (ns : List ℕ) (n : ℕ) → has (numbers_of ns) n ≡ has_listed ns n
has-listed [] n = ap is_some (fin.get-empty nat_cmp n)
has-listed (m ∷ ms) n = ap is_some (fin.get-insert nat_cmp_total (numbers_of ms) m tt n) ∙ marked (eq_by_cmp nat_cmp n m) (fin.get (numbers_of ms) n) ∙ ap (λ b. eq_by_cmp nat_cmp n m || b) (has-listed ms n)

with_numbers-listed : (xs ns : List ℕ) → with_numbers (numbers_of xs) ns ≡ numbers_of (ns ++ xs)
with_numbers-listed xs [] = refl
with_numbers-listed xs (n ∷ ns) = ap (λ s. fin.insert s n tt) (with_numbers-listed xs ns)

abbrev pick_listed : List ℕ → List Addition → Option (Addition × List Addition)
pick_listed xs [] = None
pick_listed xs (a ∷ others) = cond (has_listed xs a.number) (Some (a, others)) (with_other a (pick_listed xs others))

pick-listed : (xs : List ℕ) (adds : List Addition) → pick (numbers_of xs) adds ≡ pick_listed xs adds
pick-listed xs [] = refl
pick-listed xs (a ∷ others) = λ i. cond (has-listed xs a.number i) (Some (a, others)) (with_other a (pick-listed xs others i))

abbrev by_pick_listed : (List ℕ → List Addition → List ℕ) → List ℕ → Option (Addition × List Addition) → List ℕ
by_pick_listed onward xs None = xs
by_pick_listed onward xs (Some found) = onward (all_hints found.0 ++ xs) found.1

abbrev closure_listed : ℕ → List ℕ → List Addition → List ℕ
closure_listed zero xs adds = xs
closure_listed (suc n) xs adds = by_pick_listed (closure_listed n) xs (pick_listed xs adds)

closure-listed : (n : ℕ) (xs : List ℕ) (adds : List Addition) → closure n (numbers_of xs) adds ≡ numbers_of (closure_listed n xs adds)
closure-listed zero xs adds = refl
closure-listed (suc n) xs adds =
    ap (by_pick (closure n) (numbers_of xs)) (pick-listed xs adds)
    ∙ elim (pick_listed xs adds) as (λ o. by_pick (closure n) (numbers_of xs) o ≡ numbers_of (by_pick_listed (closure_listed n) xs o)) [
      | None ↦ refl
      | Some found ↦ ap (λ s. closure n s found.1) (with_numbers-listed xs (all_hints found.0)) ∙ closure-listed n (all_hints found.0 ++ xs) found.1
    ]

abbrev needed_listed : List ListedStep → List ℕ
needed_listed ss = closure_listed (length (additions (map step_of ss))) (empty_numbers_listed ss) (additions (map step_of ss))

abbrev kept_listed : ℕ → List ℕ → ℕ → Bool
kept_listed m xs n = nat_le n m || has_listed xs n

abbrev trimmed_step_listed : ℕ → List ℕ → Step → Option Step
trimmed_step_listed m xs (Add a) = cond (kept_listed m xs a.number) (Some (Add (record a { groups = filter (λ g. kept_listed m xs g.candidate) a.groups }))) None
trimmed_step_listed m xs (Delete ns) = if_some (filter (kept_listed m xs) ns)

trimmed_step-listed : (m : ℕ) (xs : List ℕ) (s : Step) → trimmed_step m (numbers_of xs) s ≡ trimmed_step_listed m xs s
trimmed_step-listed m xs (Add a) = λ i. cond (nat_le a.number m || has-listed xs a.number i) (Some (Add (record a { groups = filter (λ g. nat_le g.candidate m || has-listed xs g.candidate i) a.groups }))) None
trimmed_step-listed m xs (Delete ns) = λ i. if_some (filter (λ n. nat_le n m || has-listed xs n i) ns)

-- a trimmed list of steps whose lemmas are written as lists
pub trimmed-evaluated : (f : FormulaValue) (ss : List ListedStep) → trimmed_steps f (map step_of ss) ≡ filter_map (trimmed_step_listed (length f.clauses) (needed_listed (up_to_empty_listed ss))) (map step_of (up_to_empty_listed ss))
trimmed-evaluated f ss =
    let front = up_to_empty_listed ss in
    let adds = additions (map step_of front) in
    (λ i. filter_map (trimmed_step (length f.clauses) (closure (length (additions (up_to_empty-listed ss i))) (with_numbers fin.empty (empty_numbers (up_to_empty-listed ss i))) (additions (up_to_empty-listed ss i)))) (up_to_empty-listed ss i))
    ∙ (λ i. filter_map (trimmed_step (length f.clauses) (closure (length adds) (numbers_of (empty_numbers-listed front i)) adds)) (map step_of front))
    ∙ (λ i. filter_map (trimmed_step (length f.clauses) (closure-listed (length adds) (empty_numbers_listed front) adds i)) (map step_of front))
    ∙ (λ i. filter_map (λ s. trimmed_step-listed (length f.clauses) (needed_listed front) s i) (map step_of front))
