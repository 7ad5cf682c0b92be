-- Clauses that are the same set or parts of one another, the least numbers that have them, and what an import finds.
use Rattle.std.proofs.Common.{◌≡◌, ap, refl, sym, ◌∙◌, inl, inr, subst, ℕ, Bool, cond, true, false, arith}
use Rattle.std.specs.Prelude.{T, ℤ, pos, neg_ℤ, int_lt, List, [], ◌∷◌, map, filter, Option, Some, None, not, ◌||◌, ◌&&◌, ◌↔◌, ◌⊎◌, IsTrue, if◌then◌else◌, is_some, ◌==◌, slice_get}
use Rattle.std.specs.List.{list_all}
use Rattle.std.proofs.lemmas.Bool.{false≢true, and_parts, and_from, or_right}
use Rattle.std.proofs.lemmas.Bool.Decides.{nat_tests}
use Rattle.std.specs.Ordering.{nat_cmp, eq_by_cmp, is_eq}
use Rattle.std.specs.FinMap as fin
use Rattle.std.specs.FinMap.Entries.{find, is_sorted}
use Rattle.std.specs.Cmp.{both_ways, nat_cmp_total, unsigned_tied, tied_itself}
use lib.IntN.{neg_ℤ-neg_ℤ}
use Rattle.lj_clause.specs.Literal.{lit_cmp}
use Rattle.lj_clause.specs.LiteralSet.{LiteralSet, holds, literals, negations, with_literal}
use Rattle.lj_clause.specs.ClauseMap.{ClauseMap}
use Rattle.lj_clause.specs.Propagation.{Propagation, Closed, Open, is_contradictory, propagate, propagate_over, by_hint, by_rest, is_closed}
use Rattle.lj_clause.proofs.LiteralSets.{same_set, holds-literals}
use Rattle.lj_clause.proofs.TruthLaws.{holds-negations}
use Rattle.lj_clause.proofs.Among.{among, itself, any_at, any_found}
use Rattle.lj_clause.proofs.Literals.{same_literal}
use Rattle.lj_clause.proofs.Tests.{left_of, right_of}
use Rattle.lj_clause.proofs.SortedEntries.{none_below}
use Rattle.lj_text.specs.declared.line.Addition.{Addition}
use Rattle.lj_text.specs.declared.step.Step.TheVariants as steps
use Rattle.lj_text.specs.Steps.{names_all, names, is_in_place, is_accepted, first_propagation, is_rat_after, IsRecorded, IsRecordedAfter}
use Rattle.lj_book.specs.declared.found.Found.{Found}
use Rattle.lj_book.specs.declared.found.Found.TheVariants.{Equal, Part, Neither}
use Rattle.lj_book.specs.Lookup.{is_part, is_same, least_number, least_part}
use Rattle.lj_book.specs.State.{State, next, live}
use Rattle.lj_book.specs.Imports.{found_by, part_hints, part_addition, step_by, number_by, found, import_step, import_number}

-- ---- clauses that are the same set

pub all_hold : (d : LiteralSet) (ls : List ℤ) → list_all (holds d) ls ≡ true → (q : ℤ) → among q ls ≡ true → holds d q ≡ true
all_hold d [] h q m = absurd (false≢true m)
all_hold d (l ∷ ls) h q m =
    let parts = and_parts (holds d l) (list_all (holds d) ls) h in
    elim (eq_by_cmp lit_cmp q l) as (λ b. eq_by_cmp lit_cmp q l ≡ b → (b || among q ls) ≡ true → holds d q ≡ true) [
      | true ↦ λ e m. ap (holds d) (same_literal q l e) ∙ parts.0
      | false ↦ λ e m. all_hold d ls parts.1 q m
    ] refl m

pub same_clauses : (c d : LiteralSet) → is_same c d ≡ true → c ≡ d
same_clauses c d h =
    let parts = and_parts (list_all (holds d) (literals c)) (list_all (holds c) (literals d)) h in
    same_set c d (λ q. both_ways (holds c q) (holds d q) (λ e. all_hold d (literals c) parts.0 q (sym (holds-literals c q) ∙ e)) (λ e. all_hold c (literals d) parts.1 q (sym (holds-literals d q) ∙ e)))

pub each_holds : (d : LiteralSet) (ls : List ℤ) → ((q : ℤ) → among q ls ≡ true → holds d q ≡ true) → list_all (holds d) ls ≡ true
each_holds d [] h = refl
each_holds d (l ∷ ls) h = and_from (holds d l) (list_all (holds d) ls) (h l (ap (λ b. b || among l ls) (itself l))) (each_holds d ls (λ q m. h q (or_right (eq_by_cmp lit_cmp q l) (among q ls) m)))

pub same_itself : (c : LiteralSet) → is_same c c ≡ true
same_itself c =
    let all = each_holds c (literals c) (λ q m. holds-literals c q ∙ m) in
    and_from (list_all (holds c) (literals c)) (list_all (holds c) (literals c)) all all

-- what the code's test of two clauses says
pub same_test : (b : Bool) (c d : LiteralSet) → (IsTrue b ↔ (d ≡ c)) → b ≡ is_same c d
same_test b c d h = both_ways b (is_same c d) (λ e. ap (is_same c) (h.0 e) ∙ same_itself c) (λ e. h.1 (sym (same_clauses c d e)))

-- ---- parts

none_left : (c : LiteralSet) (ls : List ℤ) → list_all (holds c) ls ≡ true → filter (λ l. not (holds (negations c) (neg_ℤ l))) ls ≡ []
none_left c [] h = refl
none_left c (l ∷ ls) h =
    let parts = and_parts (holds c l) (list_all (holds c) ls) h in
    let turned : holds (negations c) (neg_ℤ l) ≡ true = holds-negations c (neg_ℤ l) ∙ ap (holds c) (neg_ℤ-neg_ℤ l) ∙ parts.0 in
    ap (λ b. cond (not b) (l ∷ filter (λ m. not (holds (negations c) (neg_ℤ m))) ls) (filter (λ m. not (holds (negations c) (neg_ℤ m))) ls)) turned
    ∙ none_left c ls parts.1

contradiction_turned : (c : LiteralSet) → is_contradictory c ≡ true → is_contradictory (negations c) ≡ true
contradiction_turned c h =
    let found = any_found (λ l. int_lt (pos 0) l && holds c (neg_ℤ l)) (literals c) h in
    let l : ℤ = found.0 in
    let parts = and_parts (int_lt (pos 0) l) (holds c (neg_ℤ l)) found.2 in
    any_at (λ m. int_lt (pos 0) m && holds (negations c) (neg_ℤ m)) l (literals (negations c))
    (sym (holds-literals (negations c) l) ∙ holds-negations c l ∙ parts.1)
    (and_from (int_lt (pos 0) l) (holds (negations c) (neg_ℤ l)) parts.0 (holds-negations c (neg_ℤ l) ∙ ap (holds c) (neg_ℤ-neg_ℤ l) ∙ holds-literals c l ∙ found.1))

contradiction_back : (c : LiteralSet) → is_contradictory (negations c) ≡ true → is_contradictory c ≡ true
contradiction_back c h =
    let found = any_found (λ l. int_lt (pos 0) l && holds (negations c) (neg_ℤ l)) (literals (negations c)) h in
    let l : ℤ = found.0 in
    let parts = and_parts (int_lt (pos 0) l) (holds (negations c) (neg_ℤ l)) found.2 in
    any_at (λ m. int_lt (pos 0) m && holds c (neg_ℤ m)) l (literals c)
    (sym (holds-literals c l) ∙ sym (ap (holds c) (neg_ℤ-neg_ℤ l)) ∙ sym (holds-negations c (neg_ℤ l)) ∙ parts.1)
    (and_from (int_lt (pos 0) l) (holds c (neg_ℤ l)) parts.0 (sym (holds-negations c l) ∙ holds-literals (negations c) l ∙ found.1))

pub contradictory-negations : (c : LiteralSet) → is_contradictory (negations c) ≡ is_contradictory c
contradictory-negations c = both_ways _ _ (contradiction_back c) (contradiction_turned c)

-- a clause is proved by a part of it, or by itself where it holds a literal and its negation
closes_itself : (p : ClauseMap) (c : LiteralSet) → is_contradictory c ≡ true → propagate p (negations c) [] ≡ Closed []
unfolding propagate_over
closes_itself p c e = ap (λ b. if b then Closed [] else Open (negations c)) (contradictory-negations c ∙ e)

closes_by : (p : ClauseMap) (c d : LiteralSet) (part : ℕ) → is_contradictory c ≡ false → fin.get p part ≡ Some d → is_part c d ≡ true → propagate p (negations c) (part ∷ []) ≡ Closed (part ∷ [])
unfolding propagate_over
closes_by p c d part e at is =
    ap (λ b. if b then Closed [] else by_hint part (fin.get p part) (negations c) (λ l. propagate_over (with_literal (negations c) l) [])) (contradictory-negations c ∙ e)
    ∙ ap (λ (o : Option LiteralSet). by_hint part o (negations c) (λ l. propagate_over (with_literal (negations c) l) [])) at
    ∙ ap (λ ls. by_rest part ls (λ l. propagate_over (with_literal (negations c) l) [])) (none_left c (literals d) is)

pub part_closes : (p : ClauseMap) (c d : LiteralSet) (part : ℕ) → fin.get p part ≡ Some d → is_part c d ≡ true → propagate p (negations c) (part_hints c part) ≡ Closed (part_hints c part)
part_closes p c d part at is =
    elim (is_contradictory c) as (λ b. is_contradictory c ≡ b → propagate p (negations c) (if b then [] else part ∷ []) ≡ Closed (if b then [] else part ∷ [])) [
      | true ↦ λ e. closes_itself p c e
      | false ↦ λ e. closes_by p c d part e at is
    ] refl

-- so its addition under a new number is accepted, and in recorded form
pub record IsProved (p : ClauseMap) (a : Addition) : Type 0 where
  pub accepted : is_accepted p (steps.Add a) ≡ true
  pub recorded : IsRecorded p a

hints_there : (p : ClauseMap) (c : LiteralSet) (part : ℕ) → fin.contains_key p part ≡ true → names_all p (part_hints c part) ≡ true
hints_there p c part there =
    elim (is_contradictory c) as (λ b. names_all p (if b then [] else part ∷ []) ≡ true) [
      | true ↦ refl
      | false ↦ and_from (names p part) true there refl
    ]

pub part_proved : (p : ClauseMap) (number : ℕ) (c d : LiteralSet) (part : ℕ) → fin.contains_key p number ≡ false → fin.get p part ≡ Some d → is_part c d ≡ true → IsProved p (part_addition number c part)
part_proved p number c d part fresh at is =
    let a : Addition = part_addition number c part in
    let closed : first_propagation p a ≡ Closed (part_hints c part) = part_closes p c d part at is in
    let stored : is_in_place p a ≡ true =
    and_from (not (names p number)) _ (ap not fresh) (and_from (names_all p (part_hints c part)) true (hints_there p c part (ap is_some at)) refl) in
    let rup : (is_closed (first_propagation p a) || is_rat_after p a (first_propagation p a)) ≡ true = ap (λ (w : Propagation). is_closed w || is_rat_after p a w) closed in
    record {
      accepted = and_from (is_in_place p a) _ stored rup;
      recorded = subst-recorded p a (part_hints c part) closed refl refl;
    }
  where
    subst-recorded : (p : ClauseMap) (a : Addition) (used : List ℕ) → first_propagation p a ≡ Closed used → a.hints ≡ used → a.groups ≡ [] → IsRecorded p a
    subst-recorded p a used closed hints groups = subst (IsRecordedAfter p a) (sym closed) (hints, groups)

-- ---- the least number that has a clause

pub tied_number : (q k : ℕ) → eq_by_cmp nat_cmp q k ≡ true → q ≡ k
tied_number q k e = let f : (q == k) ≡ true = sym (unsigned_tied q k) ∙ e in grind (arith, nat_tests)

-- a number with its clause, which passes the test
record FirstFound {X : Type 0} (test : X → Bool) (es : List (ℕ × X)) (n : ℕ) : Type 0 where
  clause : X
  there : find nat_cmp n es ≡ Some clause
  passes : test clause ≡ true

found_first : {X : Type 0} (test : X → Bool) (es : List (ℕ × X)) (n : ℕ) → T (is_sorted nat_cmp es) → slice_get (map (λ e. e.0) (filter (λ e. test e.1) es)) 0 ≡ Some n → FirstFound test es n
found_first test [] n sorted h = absurd (false≢true (ap is_some h))
found_first {X} test (e ∷ es) n sorted h =
    elim (test e.1) as (λ b. test e.1 ≡ b → slice_get (map (λ (f : ℕ × X). f.0) (cond b (e ∷ filter (λ f. test f.1) es) (filter (λ f. test f.1) es))) 0 ≡ Some n → FirstFound test (e ∷ es) n) [
      | true ↦ λ passes g.
          let is : e.0 ≡ n = cc in
          record {
            clause = e.1;
            there = ap (λ (k : ℕ). cond (is_eq (nat_cmp k e.0)) (Some e.1) (find nat_cmp k es)) (sym is) ∙ ap (λ r. cond (is_eq r) (Some e.1) (find nat_cmp e.0 es)) (tied_itself nat_cmp_total e.0);
            passes = passes;
          }
      | false ↦ λ fails g.
          let later = found_first test es n (right_of _ _ sorted) g in
          record {
            clause = later.clause;
            there = elim (eq_by_cmp nat_cmp n e.0) as (λ b. eq_by_cmp nat_cmp n e.0 ≡ b → cond b (Some e.1) (find nat_cmp n es) ≡ Some later.clause) [
              | true ↦ λ t. absurd (false≢true (sym (ap is_some (ap (λ (k : ℕ). find nat_cmp k es) (tied_number n e.0 t) ∙ none_below e.0 es (left_of _ _ sorted))) ∙ ap is_some later.there))
              | false ↦ λ t. later.there
            ] refl;
            passes = later.passes;
          }
    ] refl h

pub least_lives : (p : ClauseMap) (c : LiteralSet) (n : ℕ) → least_number p c ≡ Some n → fin.get p n ≡ Some c
least_lives p c n h =
    let found = found_first (is_same c) (fin.entries p) n (fin.entries_sorted p) h in
    fin.get-entries p n ∙ found.there ∙ ap Some (sym (same_clauses c found.clause found.passes))

pub part_lives : (p : ClauseMap) (c : LiteralSet) (n : ℕ) → least_part p c ≡ Some n → (d : LiteralSet) × ((fin.get p n ≡ Some d) × (is_part c d ≡ true))
part_lives p c n h =
    let found = found_first (is_part c) (fin.entries p) n (fin.entries_sorted p) h in
    (found.clause, (fin.get-entries p n ∙ found.there, found.passes))

-- ---- what an import finds

-- An equal clause, which lives under this number.
pub record FindsEqual (s : State) (c : LiteralSet) (joint : ℕ) : Type 0 where
  pub is_found : found s c ≡ Equal joint
  pub number : import_number s c ≡ Some joint
  pub step : import_step s c ≡ None
  pub lives : fin.get (live s) joint ≡ Some c

-- A part of it, which lives under this number.
pub record FindsPart (s : State) (c : LiteralSet) (part : ℕ) : Type 0 where
  pub is_found : found s c ≡ Part part
  pub number : import_number s c ≡ Some (next s)
  pub step : import_step s c ≡ Some (steps.Add (part_addition (next s) c part))
  pub clause : LiteralSet
  pub lives : fin.get (live s) part ≡ Some clause
  pub covers : is_part c clause ≡ true

pub equal_found : (s : State) (c : LiteralSet) (joint : ℕ) → found s c ≡ Equal joint → FindsEqual s c joint
equal_found s c joint e = record {
  is_found = e;
  number = ap (number_by (next s)) e;
  step = ap (step_by (next s) c) e;
  lives = least_lives (live s) c joint (by (least_number (live s) c) (least_part (live s) c) e);
}
  where
    by : (o p : Option ℕ) → found_by o p ≡ Equal joint → o ≡ Some joint
    by (Some n) p h = let same : n ≡ joint = cc in ap Some same
    by None (Some n) h = absurd (let no : ⊥ = cc in no)
    by None None h = absurd (let no : ⊥ = cc in no)

pub part_found : (s : State) (c : LiteralSet) (part : ℕ) → found s c ≡ Part part → FindsPart s c part
part_found s c part e =
    let lives = part_lives (live s) c part (by (least_number (live s) c) (least_part (live s) c) e) in
    record {
      is_found = e;
      number = ap (number_by (next s)) e;
      step = ap (step_by (next s) c) e;
      clause = lives.0;
      lives = lives.1.0;
      covers = lives.1.1;
    }
  where
    by : (o p : Option ℕ) → found_by o p ≡ Part part → p ≡ Some part
    by (Some n) p h = absurd (let no : ⊥ = cc in no)
    by None (Some n) h = let same : n ≡ part = cc in ap Some same
    by None None h = absurd (let no : ⊥ = cc in no)

-- one of both, where there is a number to bind
pub finds : (s : State) (c : LiteralSet) → is_some (import_number s c) ≡ true → ((joint : ℕ) × FindsEqual s c joint) ⊎ ((part : ℕ) × FindsPart s c part)
finds s c some = by (found s c) refl some
  where
    by : (f : Found) → found s c ≡ f → is_some (number_by (next s) f) ≡ true → ((joint : ℕ) × FindsEqual s c joint) ⊎ ((part : ℕ) × FindsPart s c part)
    by (Equal joint) e h = inl (joint, equal_found s c joint e)
    by (Part part) e h = inr (part, part_found s c part e)
    by Neither e h = absurd (false≢true h)
