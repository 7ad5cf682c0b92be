-- What accepted steps keep, and what the recorded form of an addition keeps.
use Rattle.std.proofs.Common.{◌≡◌, ◌≢◌, ap, refl, sym, ◌∙◌, subst, ℕ, ◌<◌, arith}
use Rattle.std.specs.Prelude.{ℤ, pos, neg_ℤ, MatchOption, Bool, true, false, cond, not, ◌&&◌, ◌||◌, ◌==◌, List, [], ◌∷◌, map, is_some, Option, Some, None}
use Rattle.std.specs.List.{list_any, list_all, AllByRecursion, AllZip}
use Rattle.std.specs.List.Sorted.{IsStrictlySortedBy}
use Rattle.std.specs.Ordering.{nat_cmp, is_eq}
use Rattle.std.specs.declared.cmp.Ordering.TheVariants.{Less}
use Rattle.std.specs.Cmp.{nat_cmp_total, tied_itself}
use Rattle.std.proofs.lemmas.Cmp.{ranked}
use Rattle.std.proofs.lemmas.Bool.Decides.{nat_tests}
use borrow.Author.Tests.{eqb-true}
use Rattle.std.proofs.lemmas.Bool.{false≢true, and_parts, and_from}
use Rattle.std.specs.FinMap as fin
use Rattle.lj_clause.specs.Literal.{variable_of}
use Rattle.lj_clause.specs.LiteralSet.{LiteralSet, holds, negations, with_negations, no_literals}
use Rattle.lj_clause.specs.ClauseMap.{ClauseMap, FormulaValue, formula_map}
use Rattle.lj_clause.specs.Truth.{Assignment, satisfies, SatisfiesAll, IsSatisfiable}
use Rattle.lj_clause.specs.Propagation.{Propagation, Closed, Open, Stuck, is_closed}
use Rattle.lj_clause.specs.Rat.{RatAnswer, Covered, MissingGroup, GroupStuck, GroupOpen, HintGroup, rat, candidates, others, is_covered}
use Rattle.lj_clause.proofs.TruthLaws.{SatisfiesAll-insert, SatisfiesAll-remove, satisfies-no_literals}
use Rattle.lj_clause.proofs.PropagationLaws.{satisfies-is_rup, propagate-used, used-in}
use Rattle.lj_clause.specs.Laws.{hints_given}
use Rattle.lj_clause.proofs.RatLaws as ratlaws
use Rattle.lj_text.specs.declared.line.Addition.{Addition}
use Rattle.lj_text.specs.declared.step.Step.{Step}
use Rattle.lj_text.specs.declared.step.Step.TheVariants.{Add, Delete}
use Rattle.lj_text.specs.Steps.{names, names_all, are_distinct, is_in_place, is_rat_on, is_rat_after, first_propagation, is_accepted, without, after_step, replay, adds_empty, refutes, IsRecordedAfter, IsRecorded, with_covered, recorded_on, recorded_after, recorded_form}

nonzero : (q : ℤ) → not (variable_of q == 0) ≡ true → q ≢ pos 0
nonzero q e is = false≢true (sym (ap (λ l. not (variable_of l == 0)) is) ∙ e)

-- ---- accepted additions keep satisfiability

-- a pivot that is RAT, with the groups that cover its candidates
record IsRat (p : ClauseMap) (a : Addition) (s : LiteralSet) (q : ℤ) : Type 0 where
  nonzero_pivot : q ≢ pos 0
  nonzero_test : not (variable_of q == 0) ≡ true
  buffer : holds a.lemma.clause q ≡ true
  groups : List HintGroup
  covers : rat p s q a.groups ≡ Covered groups

covered_groups : (r : RatAnswer) → is_covered r ≡ true → (gs : List HintGroup) × (r ≡ Covered gs)
covered_groups (Covered gs) e = (gs, refl)
covered_groups (MissingGroup n) e = absurd (false≢true e)
covered_groups (GroupStuck n position) e = absurd (false≢true e)
covered_groups (GroupOpen n) e = absurd (false≢true e)

rat_from : (p : ClauseMap) (a : Addition) (s : LiteralSet) (q : ℤ) → is_rat_on p a s (Some q) ≡ true → IsRat p a s q
rat_from p a s q e =
    let outer = and_parts (not (variable_of q == 0)) (holds a.lemma.clause q && is_covered (rat p s q a.groups)) e in
    let inner = and_parts (holds a.lemma.clause q) (is_covered (rat p s q a.groups)) outer.1 in
    let found = covered_groups (rat p s q a.groups) inner.1 in
    record { nonzero_pivot = nonzero q outer.0; nonzero_test = outer.0; buffer = inner.0; groups = found.0; covers = found.1 }

keeps_on : (p : ClauseMap) (a : Addition) (s : LiteralSet) (o : Option ℤ) → first_propagation p a ≡ Open s → is_rat_on p a s o ≡ true → IsSatisfiable p → IsSatisfiable (fin.insert p a.number a.lemma.clause)
keeps_on p a s None is e sat = absurd (false≢true e)
keeps_on p a s (Some q) is e sat =
    let r = rat_from p a s q e in
    ratlaws.IsSatisfiable-rat p a.number a.lemma.clause q a.hints s a.groups r.groups r.nonzero_pivot r.buffer is r.covers sat

keeps_after : (p : ClauseMap) (a : Addition) (w : Propagation) → first_propagation p a ≡ w → (is_closed w || is_rat_after p a w) ≡ true → IsSatisfiable p → IsSatisfiable (fin.insert p a.number a.lemma.clause)
keeps_after p a (Closed used) is e sat = (sat.0, SatisfiesAll-insert sat.0 p a.number a.lemma.clause sat.1 (satisfies-is_rup p a.lemma.clause a.hints sat.0 (ap is_closed is) sat.1))
keeps_after p a (Open s) is e sat = keeps_on p a s a.lemma.pivot is e sat
keeps_after p a (Stuck position) is e sat = absurd (false≢true e)

without_kept : (a : Assignment) (p : ClauseMap) (ns : List ℕ) → SatisfiesAll a p → SatisfiesAll a (without p ns)
without_kept a p [] sat = sat
without_kept a p (n ∷ ns) sat = SatisfiesAll-remove a (without p ns) n (without_kept a p ns sat)

pub IsSatisfiable-after : (p : ClauseMap) (step : Step) → is_accepted p step ≡ true → IsSatisfiable p → IsSatisfiable (after_step p step)
IsSatisfiable-after p (Add a) e sat = keeps_after p a (first_propagation p a) refl (and_parts (is_in_place p a) (is_closed (first_propagation p a) || is_rat_after p a (first_propagation p a)) e).1 sat
IsSatisfiable-after p (Delete ns) e sat = (sat.0, without_kept sat.0 p ns sat.1)

-- ---- replays

-- a defined replay begins with an accepted step, and goes on from what it leaves
pub replay_first : (p q : ClauseMap) (s : Step) (ss : List Step) → replay p (s ∷ ss) ≡ Some q → (is_accepted p s ≡ true) × (replay (after_step p s) ss ≡ Some q)
replay_first p q s ss = by_test (is_accepted p s)
  where
    by_test : (b : Bool) → cond b (replay (after_step p s) ss) None ≡ Some q → (b ≡ true) × (replay (after_step p s) ss ≡ Some q)
    by_test true e = (refl, e)
    by_test false e = cc

pub IsSatisfiable-replay : (p q : ClauseMap) (steps : List Step) → replay p steps ≡ Some q → IsSatisfiable p → IsSatisfiable q
IsSatisfiable-replay p q [] e sat = let same : p ≡ q = cc in subst IsSatisfiable same sat
IsSatisfiable-replay p q (s ∷ ss) e sat =
    let first = replay_first p q s ss e in
    IsSatisfiable-replay (after_step p s) q ss first.1 (IsSatisfiable-after p s first.0 sat)

-- ---- refutations

-- a map with the empty clause is not satisfiable
no_empty : (a : Assignment) (p : ClauseMap) (n : ℕ) (c : LiteralSet) → (fin.len c == 0) ≡ true → SatisfiesAll a (fin.insert p n c) → ⊥
no_empty a p n c e sat =
    let here : fin.get (fin.insert p n c) n ≡ Some c = fin.get-insert nat_cmp_total p n c n ∙ ap (λ r. cond (is_eq r) (Some c) (fin.get p n)) (tied_itself nat_cmp_total n) in
    let none : c ≡ no_literals = fin.empty_of_len c (eqb-true (fin.len c) 0 e) in
    false≢true (sym (ap (satisfies a) none ∙ satisfies-no_literals a) ∙ sat n c here)

adds_nothing : (p : ClauseMap) (s : Step) → is_accepted p s ≡ true → adds_empty s ≡ true → IsSatisfiable p → ⊥
adds_nothing p (Add a) e empty sat = let later = IsSatisfiable-after p (Add a) e sat in no_empty later.0 p a.number a.lemma.clause empty later.1
adds_nothing p (Delete ns) e empty sat = false≢true empty

pub refuted_replay : (p q : ClauseMap) (steps : List Step) → replay p steps ≡ Some q → list_any adds_empty steps ≡ true → IsSatisfiable p → ⊥
refuted_replay p q [] e some sat = false≢true some
refuted_replay p q (s ∷ ss) e some sat =
    let first = replay_first p q s ss e in
    elim (adds_empty s) as (λ b. adds_empty s ≡ b → (b || list_any adds_empty ss) ≡ true → ⊥) [
      | true ↦ λ empty _. adds_nothing p s first.0 empty sat
      | false ↦ λ _ later. refuted_replay (after_step p s) q ss first.1 later (IsSatisfiable-after p s first.0 sat)
    ] refl some

is_defined : (o : Option ClauseMap) → is_some o ≡ true → (q : ClauseMap) × (o ≡ Some q)
is_defined None e = absurd (false≢true e)
is_defined (Some q) e = (q, refl)

pub unsatisfiable-refutes : (f : FormulaValue) (steps : List Step) → refutes f steps ≡ true → (a : Assignment) → SatisfiesAll a (formula_map f) → ⊥
unsatisfiable-refutes f steps e a sat =
    let parts = and_parts (is_some (replay (formula_map f) steps)) (list_any adds_empty steps) e in
    let defined = is_defined (replay (formula_map f) steps) parts.0 in
    refuted_replay (formula_map f) defined.0 steps defined.1 parts.1 (a, sat)

-- ---- the recorded form

all_from : {X : Type 0} (test : X → Bool) (xs : List X) → AllByRecursion (λ x. test x ≡ true) xs → list_all test xs ≡ true
all_from test [] h = refl
all_from test (x ∷ xs) h = and_from (test x) (list_all test xs) h.0 (all_from test xs h.1)

differs : (m n : ℕ) → n < m → (m == n) ≡ false
differs m n h = grind (arith, nat_tests)

above_all : (n : ℕ) (ns : List ℕ) → AllByRecursion (λ m. nat_cmp n m ≡ Less) ns → list_any (λ m. m == n) ns ≡ false
above_all n [] h = refl
above_all n (m ∷ ms) h = ap (λ b. b || list_any (λ k. k == n) ms) (apart n m h.0) ∙ above_all n ms h.1
  where
    apart : (n m : ℕ) → nat_cmp n m ≡ Less → (m == n) ≡ false
    apart n m e = let below : n < m = ranked n m Less (sym e) in differs m n below

pub distinct_rising : (ns : List ℕ) → IsStrictlySortedBy nat_cmp ns → are_distinct ns ≡ true
unfolding IsStrictlySortedBy
distinct_rising [] h = refl
distinct_rising (n ∷ ns) h = and_from (not (list_any (λ m. m == n) ns)) (are_distinct ns) (ap not (above_all n ns h.0)) (distinct_rising ns h.1)

-- each recorded group names its candidate and hints that are in the map
groups_named : (p : ClauseMap) (s : LiteralSet) (q : ℤ) (groups : List HintGroup) (es : List (ℕ × LiteralSet)) (gs : List HintGroup)
    → AllByRecursion (λ (e : ℕ × LiteralSet). (fin.get p e.0 ≡ Some e.1) × (holds e.1 (neg_ℤ q) ≡ true)) es → AllZip (ratlaws.IsRecorded p s q groups) es gs
    → AllByRecursion (λ (g : HintGroup). (names p g.candidate && names_all p g.hints) ≡ true) gs
groups_named p s q groups [] [] es_in h = tt
groups_named p s q groups [] (g ∷ gs) es_in h = absurd h
groups_named p s q groups (e ∷ es) [] es_in h = absurd h
groups_named p s q groups (e ∷ es) (g ∷ gs) es_in h = (
  and_from (names p g.candidate) (names_all p g.hints) (ap (names p) h.0.number ∙ ap is_some es_in.0.0)
      (all_from (names p) g.hints (used-in p (with_negations s (others e.1 (neg_ℤ q))) (hints_given e.0 groups) g.hints h.0.closes)),
  groups_named p s q groups es gs es_in.1 h.1,
)

-- the parts of what is in place
record InPlace (p : ClauseMap) (a : Addition) : Type 0 where
  fresh : not (names p a.number) ≡ true
  hints : names_all p a.hints ≡ true
  groups : list_all (λ (g : HintGroup). names p g.candidate && names_all p g.hints) a.groups ≡ true
  distinct : are_distinct (map (λ (g : HintGroup). g.candidate) a.groups) ≡ true

in_place_parts : (p : ClauseMap) (a : Addition) → is_in_place p a ≡ true → InPlace p a
in_place_parts p a e =
    let one = and_parts _ _ e in
    let two = and_parts _ _ one.1 in
    let three = and_parts _ _ two.1 in
    record { fresh = one.0; hints = two.0; groups = three.0; distinct = three.1 }

in_place_from : (p : ClauseMap) (a : Addition) → InPlace p a → is_in_place p a ≡ true
in_place_from p a h = and_from _ _ h.fresh (and_from _ _ h.hints (and_from _ _ h.groups h.distinct))

-- what the recorded form of an addition keeps
record KeepsRecorded (p : ClauseMap) (a b : Addition) : Type 0 where
  number : b.number ≡ a.number
  lemma : b.lemma ≡ a.lemma
  form : IsRecorded p b
  accepted : is_accepted p (Add b) ≡ true

-- an addition whose first list closes, cut to the hints that were read
closed_recorded : (p : ClauseMap) (a : Addition) (used : List ℕ) → InPlace p a → first_propagation p a ≡ Closed used → KeepsRecorded p a (record a { hints = used; groups = [] })
closed_recorded p a used here is =
    let b : Addition = record a { hints = used; groups = [] } in
    let again : first_propagation p b ≡ Closed used = propagate-used p (negations a.lemma.clause) a.hints used is in
    record {
      number = refl;
      lemma = refl;
      form = subst (IsRecordedAfter p b) (sym again) (refl, refl);
      accepted = and_from (is_in_place p b) (is_closed (first_propagation p b) || is_rat_after p b (first_propagation p b))
          (in_place_from p b (record { fresh = here.fresh; hints = all_from (names p) used (used-in p (negations a.lemma.clause) a.hints used is); groups = refl; distinct = refl }))
          (ap (λ w. is_closed w || is_rat_after p b w) again);
    }

-- an addition that is RAT, with the groups that its candidates' tests read
rat_recorded : (p : ClauseMap) (a : Addition) (s : LiteralSet) (q : ℤ) → InPlace p a → first_propagation p a ≡ Open s → a.lemma.pivot ≡ Some q → (r : IsRat p a s q) → KeepsRecorded p a (record a { groups = r.groups })
rat_recorded p a s q here is pivot r =
    let b : Addition = record a { groups = r.groups } in
    let again : rat p s q r.groups ≡ Covered r.groups = ratlaws.rat-again p s q a.groups r.groups r.covers in
    let named = groups_named p s q a.groups (candidates p q) r.groups (ratlaws.candidates-get p q) (ratlaws.recorded-rat p s q a.groups r.groups r.covers) in
    let rising = subst (IsStrictlySortedBy nat_cmp) (sym (ratlaws.recorded-numbers p s q a.groups r.groups r.covers)) (ratlaws.candidates-sorted p q) in
    record {
      number = refl;
      lemma = refl;
      form = subst (IsRecordedAfter p b) (sym is) (subst (λ (o : Option ℤ). MatchOption o ⊥ (λ k. rat p s k r.groups ≡ Covered r.groups)) (sym pivot) again);
      accepted = and_from (is_in_place p b) (is_closed (first_propagation p b) || is_rat_after p b (first_propagation p b))
          (in_place_from p b (record { fresh = here.fresh; hints = here.hints; groups = all_from (λ (g : HintGroup). names p g.candidate && names_all p g.hints) r.groups named; distinct = distinct_rising _ rising }))
          (ap (λ w. is_closed w || is_rat_after p b w) is ∙ ap (is_rat_on p b s) pivot
          ∙ and_from (not (variable_of q == 0)) (holds a.lemma.clause q && is_covered (rat p s q r.groups)) r.nonzero_test (and_from (holds a.lemma.clause q) (is_covered (rat p s q r.groups)) r.buffer (ap is_covered again)));
    }

recorded_open : (p : ClauseMap) (a : Addition) (s : LiteralSet) (o : Option ℤ) → a.lemma.pivot ≡ o → InPlace p a → first_propagation p a ≡ Open s → is_rat_on p a s o ≡ true → KeepsRecorded p a (recorded_on p a s o)
recorded_open p a s None pivot here is e = absurd (false≢true e)
recorded_open p a s (Some q) pivot here is e =
    let r = rat_from p a s q e in
    subst (λ w. KeepsRecorded p a (with_covered a w)) (sym r.covers) (rat_recorded p a s q here is pivot r)

recorded_by : (p : ClauseMap) (a : Addition) (w : Propagation) → InPlace p a → first_propagation p a ≡ w → (is_closed w || is_rat_after p a w) ≡ true → KeepsRecorded p a (recorded_after p a w)
recorded_by p a (Closed used) here is e = closed_recorded p a used here is
recorded_by p a (Open s) here is e = recorded_open p a s a.lemma.pivot refl here is e
recorded_by p a (Stuck position) here is e = absurd (false≢true e)

-- the recorded form of an accepted addition is accepted, in recorded form, and leaves the same map
pub recorded_keeps : (p : ClauseMap) (a : Addition) → is_accepted p (Add a) ≡ true → IsRecorded p (recorded_form p a) × (is_accepted p (Add (recorded_form p a)) ≡ true) × (after_step p (Add (recorded_form p a)) ≡ after_step p (Add a))
recorded_keeps p a e =
    let parts = and_parts (is_in_place p a) (is_closed (first_propagation p a) || is_rat_after p a (first_propagation p a)) e in
    let keeps = recorded_by p a (first_propagation p a) (in_place_parts p a parts.0) refl parts.1 in
    (keeps.form, keeps.accepted, λ i. fin.insert p (keeps.number i) (keeps.lemma i).clause)
