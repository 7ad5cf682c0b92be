-- The trimmed list refutes what the steps refute.
use Rattle.std.proofs.Common.{◌≡◌, ℕ, ◌+◌, ◌<◌, ◌≤◌, suc, zero, ap, refl, sym, ◌∙◌, subst, arith, List, [], ◌∷◌, ◌++◌, length}
use Rattle.std.specs.Prelude.{Bool, true, false, cond, not, ◌&&◌, ◌||◌, ◌==◌, nat_le, ℤ, filter, filter_map, Option, Some, None, is_some}
use Rattle.std.specs.List.{list_any, AllByRecursion, cons_option}
use Rattle.std.specs.FinMap as fin
use Rattle.std.proofs.lemmas.Bool.{false≢true, or_right, and_parts, and_from}
use Rattle.std.proofs.lemmas.Bool.Decides.{nat_tests}
use Rattle.std.proofs.lemmas.Option.{slice_get_past}
use Rattle.lj_clause.specs.Literal.{variable_of}
use Rattle.lj_clause.specs.LiteralSet.{LiteralSet, holds, negations}
use Rattle.lj_clause.specs.ClauseMap.{ClauseMap, FormulaValue, formula_map}
use Rattle.lj_clause.specs.Propagation.{Propagation, Closed, Open, Stuck, is_closed}
use Rattle.lj_clause.specs.Rat.{rat, is_covered}
use Rattle.lj_clause.proofs.Formulas.{clause_zero, clause_at}
use Rattle.lj_clause.proofs.PropagationLaws.{propagate-agree}
use Rattle.lj_text.specs.declared.line.Addition.{Addition}
use Rattle.lj_text.specs.declared.step.Step.{Step}
use Rattle.lj_text.specs.declared.step.Step.TheVariants.{Add, Delete}
use Rattle.lj_text.specs.Steps.{names_all, is_in_place, is_rat_on, is_rat_after, first_propagation, is_accepted, without, after_step, replay, adds_empty}
use Rattle.lj_text.specs.Needed.{NumberSet, has, up_to_empty, additions, all_hints, empty_numbers, needed_numbers, is_kept, if_some, trimmed_step, trimmed_steps}
use Rattle.lj_text.proofs.NeededLaws.{needed_least, Covers}
use Rattle.lj_trim.specs.Laws.{AreAbove, FrontRefutes, TrimmedRefutes}
use Rattle.lj_trim.proofs.MarkLemmas.{all-front, all-back}
use Rattle.lj_trim.proofs.RestrictLemmas.{Restricts, restricts-insert, restricts-lost, restricts-without, AreKept, kept_same, all_same, names_same, names_kept, kept_groups, group_hints, groups_named, still_distinct, covered_kept}

-- ---- steps up to the first addition of the empty clause

accepted_first : (p : ClauseMap) (s : Step) (ss : List Step) → is_some (replay p (s ∷ ss)) ≡ true → (is_accepted p s ≡ true) × (is_some (replay (after_step p s) ss) ≡ true)
accepted_first p s ss = by_test (is_accepted p s)
  where
    by_test : (b : Bool) → is_some (cond b (replay (after_step p s) ss) None) ≡ true → (b ≡ true) × (is_some (replay (after_step p s) ss) ≡ true)
    by_test true e = (refl, e)
    by_test false e = absurd (false≢true e)

replay_next : (p : ClauseMap) (s : Step) (ss : List Step) → is_accepted p s ≡ true → is_some (replay (after_step p s) ss) ≡ true → is_some (replay p (s ∷ ss)) ≡ true
replay_next p s ss here later = ap (λ b. is_some (cond b (replay (after_step p s) ss) None)) here ∙ later

front_replay : (p : ClauseMap) (ss : List Step) → is_some (replay p ss) ≡ true → is_some (replay p (up_to_empty ss)) ≡ true
front_replay p [] e = e
front_replay p (s ∷ ss) e =
    let parts = accepted_first p s ss e in
    elim (adds_empty s) as (λ b. is_some (replay p (cond b (s ∷ []) (s ∷ up_to_empty ss))) ≡ true) [
      | true ↦ replay_next p s [] parts.0 refl
      | false ↦ replay_next p s (up_to_empty ss) parts.0 (front_replay (after_step p s) ss parts.1)
    ]

front_empty : (ss : List Step) → list_any adds_empty ss ≡ true → list_any adds_empty (up_to_empty ss) ≡ true
front_empty [] e = e
front_empty (s ∷ ss) e =
    elim (adds_empty s) as (λ b. adds_empty s ≡ b → (b || list_any adds_empty ss) ≡ true → list_any adds_empty (cond b (s ∷ []) (s ∷ up_to_empty ss)) ≡ true) [
      | true ↦ λ is _. ap (λ b. b || false) is
      | false ↦ λ is later. or_right (adds_empty s) (list_any adds_empty (up_to_empty ss)) (front_empty ss later)
    ] refl e

pub front_refutes : FrontRefutes
front_refutes f steps e =
    let parts = and_parts (is_some (replay (formula_map f) steps)) (list_any adds_empty steps) e in
    and_from (is_some (replay (formula_map f) (up_to_empty steps))) (list_any adds_empty (up_to_empty steps)) (front_replay (formula_map f) steps parts.0) (front_empty steps parts.1)

front_above : (n : ℕ) (ss : List Step) → AreAbove n ss → AreAbove n (up_to_empty ss)
front_above n [] h = tt
front_above n (Add a ∷ ss) h =
    elim (adds_empty (Add a)) as (λ b. AreAbove n (cond b (Add a ∷ []) (Add a ∷ up_to_empty ss))) [
      | true ↦ (h.0, tt)
      | false ↦ (h.0, front_above n ss h.1)
    ]
front_above n (Delete ns ∷ ss) h = front_above n ss h

-- ---- one step

abbrev kept_addition : (ℕ → Bool) → Addition → Addition
kept_addition kept a = record a { groups = kept_groups kept a.groups }

rat_kept : (kept : ℕ → Bool) (p q : ClauseMap) (a : Addition) (s : LiteralSet) (o : Option ℤ) → Restricts kept p q → AreKept kept (group_hints a.groups) → is_rat_on p a s o ≡ true → is_rat_on q (kept_addition kept a) s o ≡ true
rat_kept kept p q a s None h all e = e
rat_kept kept p q a s (Some pivot) h all e =
    let outer = and_parts (not (variable_of pivot == 0)) (holds a.lemma.clause pivot && is_covered (rat p s pivot a.groups)) e in
    let inner = and_parts (holds a.lemma.clause pivot) (is_covered (rat p s pivot a.groups)) outer.1 in
    and_from (not (variable_of pivot == 0)) (holds a.lemma.clause pivot && is_covered (rat q s pivot (kept_groups kept a.groups))) outer.0
    (and_from (holds a.lemma.clause pivot) (is_covered (rat q s pivot (kept_groups kept a.groups))) inner.0 (covered_kept kept p q s pivot a.groups h all inner.1))

ends_kept : (kept : ℕ → Bool) (p q : ClauseMap) (a : Addition) (w : Propagation) → Restricts kept p q → AreKept kept (group_hints a.groups) → (is_closed w || is_rat_after p a w) ≡ true → (is_closed w || is_rat_after q (kept_addition kept a) w) ≡ true
ends_kept kept p q a (Closed used) h all e = refl
ends_kept kept p q a (Open s) h all e = rat_kept kept p q a s a.lemma.pivot h all e
ends_kept kept p q a (Stuck index) h all e = e

in_place_kept : (kept : ℕ → Bool) (p q : ClauseMap) (a : Addition) → Restricts kept p q → kept a.number ≡ true → AreKept kept a.hints → AreKept kept (group_hints a.groups) → is_in_place p a ≡ true → is_in_place q (kept_addition kept a) ≡ true
in_place_kept kept p q a h number hints groups e =
    let one = and_parts _ _ e in
    let two = and_parts _ _ one.1 in
    let three = and_parts _ _ two.1 in
    and_from _ _ (ap (λ o. not (is_some o)) (sym (kept_same kept p q a.number h number)) ∙ one.0)
    (and_from _ _ (sym (names_same p q a.hints (all_same kept p q a.hints h hints)) ∙ two.0)
    (and_from _ _ (groups_named kept p q a.groups h groups three.0) (still_distinct kept a.groups three.1)))

-- an addition all of whose hints are kept is accepted without the groups of candidates that aren't
accepted_kept : (kept : ℕ → Bool) (p q : ClauseMap) (a : Addition) → Restricts kept p q → kept a.number ≡ true → AreKept kept (all_hints a) → is_accepted p (Add a) ≡ true → is_accepted q (Add (kept_addition kept a)) ≡ true
accepted_kept kept p q a h number all e =
    let parts = and_parts (is_in_place p a) (is_closed (first_propagation p a) || is_rat_after p a (first_propagation p a)) e in
    let hints = all-front (λ n. kept n ≡ true) a.hints (group_hints a.groups) all in
    let groups = all-back (λ n. kept n ≡ true) a.hints (group_hints a.groups) all in
    let b : Addition = kept_addition kept a in
    let same : first_propagation p a ≡ first_propagation q b = propagate-agree p q (negations a.lemma.clause) a.hints (all_same kept p q a.hints h hints) in
    and_from (is_in_place q b) (is_closed (first_propagation q b) || is_rat_after q b (first_propagation q b)) (in_place_kept kept p q a h number hints groups parts.0)
    (subst (λ w. (is_closed w || is_rat_after q b w) ≡ true) same (ends_kept kept p q a (first_propagation p a) h groups parts.1))

-- ---- all steps

above_needed : (n m : ℕ) (b : Bool) → m < n → (nat_le n m || b) ≡ true → b ≡ true
above_needed n m true h e = refl
above_needed n m false h e = absurd (grind (arith, nat_tests))

needed_kept : (clauses : ℕ) (s : NumberSet) (ns : List ℕ) → AllByRecursion (λ n. has s n ≡ true) ns → AreKept (is_kept clauses s) ns
needed_kept clauses s [] h = tt
needed_kept clauses s (n ∷ ns) h = (or_right (nat_le n clauses) (has s n) h.0, needed_kept clauses s ns h.1)

replay_kept : (clauses : ℕ) (s : NumberSet) (p q : ClauseMap) (ss : List Step) → Restricts (is_kept clauses s) p q → is_some (replay p ss) ≡ true → AllByRecursion (Covers s) (additions ss) → AreAbove clauses ss → is_some (replay q (filter_map (trimmed_step clauses s) ss)) ≡ true
replay_kept clauses s p q [] h e cover above = refl
replay_kept clauses s p q (Add a ∷ ss) h e cover above =
    let kept = is_kept clauses s in
    let rest = filter_map (trimmed_step clauses s) ss in
    let parts = accepted_first p (Add a) ss e in
    elim (kept a.number) as (λ b. kept a.number ≡ b → is_some (replay q (cons_option (cond b (Some (Add (kept_addition kept a))) None) rest)) ≡ true) [
      | true ↦ λ is.
          replay_next q (Add (kept_addition kept a)) rest
          (accepted_kept kept p q a h is (needed_kept clauses s (all_hints a) (cover.0 (above_needed a.number clauses (has s a.number) above.0 is))) parts.0)
          (replay_kept clauses s (fin.insert p a.number a.lemma.clause) (fin.insert q a.number a.lemma.clause) ss (restricts-insert kept p q a.number a.lemma.clause is h) parts.1 cover.1 above.1)
      | false ↦ λ lost. replay_kept clauses s (fin.insert p a.number a.lemma.clause) q ss (restricts-lost kept p q a.number a.lemma.clause lost h) parts.1 cover.1 above.1
    ] refl
replay_kept clauses s p q (Delete ns ∷ ss) h e cover above =
    let kept = is_kept clauses s in
    let rest = filter_map (trimmed_step clauses s) ss in
    let parts = accepted_first p (Delete ns) ss e in
    let left = restricts-without kept p q ns h in
    elim (filter kept ns) as (λ ms. filter kept ns ≡ ms → is_some (replay q (cons_option (if_some ms) rest)) ≡ true) [
      | [] ↦ λ is. replay_kept clauses s (without p ns) q ss (subst (λ ms. Restricts kept (without p ns) (without q ms)) is left) parts.1 cover above
      | m ∷ ms ↦ λ is.
          replay_next q (Delete (m ∷ ms)) rest
          (subst (λ ks. names_all q ks ≡ true) is (names_kept kept p q ns h parts.0))
          (replay_kept clauses s (without p ns) (without q (m ∷ ms)) ss (subst (λ ks. Restricts kept (without p ns) (without q ks)) is left) parts.1 cover above)
    ] refl

any_later : (o : Option Step) (ss : List Step) → list_any adds_empty ss ≡ true → list_any adds_empty (cons_option o ss) ≡ true
any_later None ss e = e
any_later (Some s) ss e = or_right (adds_empty s) (list_any adds_empty ss) e

empty_kept : (clauses : ℕ) (s : NumberSet) (ss : List Step) → AllByRecursion (λ n. has s n ≡ true) (empty_numbers ss) → list_any adds_empty ss ≡ true → list_any adds_empty (filter_map (trimmed_step clauses s) ss) ≡ true
empty_kept clauses s [] h e = e
empty_kept clauses s (Add a ∷ ss) h e =
    let kept = is_kept clauses s in
    let rest = filter_map (trimmed_step clauses s) ss in
    elim (adds_empty (Add a)) as (λ b. adds_empty (Add a) ≡ b → AllByRecursion (λ n. has s n ≡ true) (cond b (a.number ∷ []) [] ++ empty_numbers ss) → (b || list_any adds_empty ss) ≡ true → list_any adds_empty (cons_option (trimmed_step clauses s (Add a)) rest) ≡ true) [
      | true ↦ λ is here _.
          ap (λ b. list_any adds_empty (cons_option (cond b (Some (Add (kept_addition kept a))) None) rest)) (or_right (nat_le a.number clauses) (has s a.number) here.0)
          ∙ ap (λ b. b || list_any adds_empty rest) is
      | false ↦ λ is there later. any_later (trimmed_step clauses s (Add a)) rest (empty_kept clauses s ss there later)
    ] refl h e
empty_kept clauses s (Delete ns ∷ ss) h e = any_later (trimmed_step clauses s (Delete ns)) (filter_map (trimmed_step clauses s) ss) (empty_kept clauses s ss h e)

no_clause : (f : FormulaValue) (n : ℕ) → nat_le n (length f.clauses) ≡ false → fin.get (formula_map f) n ≡ None
no_clause f zero e = clause_zero f zero (omega arith)
no_clause f (suc i) e =
    let past : length f.clauses ≤ i = grind (arith, nat_tests) in
    let index : suc i ≡ 1 + i = omega arith in
    clause_at f (suc i) i index ∙ slice_get_past f.clauses i past

-- all clauses of the formula are kept
formula_kept : (f : FormulaValue) (s : NumberSet) → Restricts (is_kept (length f.clauses) s) (formula_map f) (formula_map f)
formula_kept f s n =
    elim (nat_le n (length f.clauses)) as (λ b. nat_le n (length f.clauses) ≡ b → fin.get (formula_map f) n ≡ cond (b || has s n) (fin.get (formula_map f) n) None) [
      | true ↦ λ _. refl
      | false ↦ λ is. no_clause f n is ∙ sym (ap (λ o. cond (has s n) o None) (no_clause f n is) ∙ none_twice (has s n))
    ] refl
  where
    none_twice : (b : Bool) → ◌≡◌ {A = Option LiteralSet} (cond b None None) None
    none_twice true = refl
    none_twice false = refl

pub trimmed_refutes : TrimmedRefutes
trimmed_refutes f steps e above =
    let front = up_to_empty steps in
    let s = needed_numbers steps in
    let clauses = length f.clauses in
    let closed = (needed_least steps).0 in
    let first = front_refutes f steps e in
    let parts = and_parts (is_some (replay (formula_map f) front)) (list_any adds_empty front) first in
    and_from (is_some (replay (formula_map f) (trimmed_steps f steps))) (list_any adds_empty (trimmed_steps f steps))
    (replay_kept clauses s (formula_map f) (formula_map f) front (formula_kept f s) parts.0 closed.hints (front_above clauses steps above))
    (empty_kept clauses s front closed.empty_clause parts.1)
