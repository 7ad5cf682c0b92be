-- What a propagation keeps true, and that the hints it read close it alone.
use Rattle.std.proofs.Common.{◌≡◌, ◌≢◌, ℕ, ap, refl, sym, subst, ◌∙◌, inl, inr, length, take}
use Rattle.std.specs.Prelude.{ℤ, pos, neg_ℤ, Bool, int_lt, true, false, not, cond, ◌&&◌, List, [], ◌∷◌, map, Option, Some, None, IfSome, is_some}
use Rattle.std.specs.List.{list_all, AllByRecursion, take-map}
use Rattle.std.specs.Ordering.{eq_by_cmp}
use Rattle.std.proofs.lemmas.Bool.{false≢true, and_parts, and_from, or_cases, or_right, false_from_ne_true, not_from_false}
use lib.IntN.{neg_ℤ-neg_ℤ}
use Rattle.std.specs.FinMap.{get, contains_key}
use Rattle.lj_clause.specs.Literal.{lit_cmp}
use Rattle.lj_clause.specs.LiteralSet.{LiteralSet, holds, literals, with_literal, negations}
use Rattle.lj_clause.specs.ClauseMap.{ClauseMap}
use Rattle.lj_clause.specs.Truth.{Assignment, is_true, satisfies, SatisfiesAll}
use Rattle.lj_clause.specs.Propagation.{Propagation, Closed, Open, Stuck, Hint, hints_in, rest, is_contradictory, after_hint, by_rest, by_hint, propagate_over, propagate, is_closed, is_rup}
use Rattle.lj_clause.proofs.Literals.{same_literal}
use Rattle.lj_clause.proofs.LiteralSets.{holds-with_literal, holds-literals}
use Rattle.lj_clause.proofs.Among.{among, any_found, kept}
use Rattle.lj_clause.proofs.TruthLaws.{not-both, is_true-neg_ℤ, true_nonzero, neg_nonzero, true_literal, false_literal, holds-negations}

-- each literal of the set but 0 is true
abbrev pub AllTrue : Assignment → LiteralSet → Type 0
AllTrue a s = (l : ℤ) → l ≢ pos 0 → holds s l ≡ true → is_true a l ≡ true

-- the assignment satisfies each clause that a hint names
abbrev pub SatisfiesHints : Assignment → List Hint → Type 0
SatisfiesHints a hs = AllByRecursion (λ h. IfSome h.clause (λ d. satisfies a d ≡ true)) hs

-- s holds each literal of t
abbrev pub HoldsAllOf : LiteralSet → LiteralSet → Type 0
HoldsAllOf s t = (l : ℤ) → holds t l ≡ true → holds s l ≡ true

-- what holds of a propagation over satisfied clauses from true literals: it isn't closed, and all that it ends open with is true
abbrev pub StaysTrue : Assignment → Propagation → Type 0
StaysTrue a (Closed used) = ⊥
StaysTrue a (Open t) = AllTrue a t
StaysTrue a (Stuck position) = Unit {0}

positive_nonzero : (l : ℤ) → int_lt (pos 0) l ≡ true → l ≢ pos 0
positive_nonzero l h e = false≢true (ap (int_lt (pos 0)) (sym e) ∙ h)

pub AllTrue-not_contradictory : (a : Assignment) (s : LiteralSet) → AllTrue a s → is_contradictory s ≡ true → ⊥
AllTrue-not_contradictory a s all h =
    let found = any_found (λ l. int_lt (pos 0) l && holds s (neg_ℤ l)) (literals s) h in
    let l : ℤ = found.0 in
    let parts = and_parts (int_lt (pos 0) l) (holds s (neg_ℤ l)) found.2 in
    let nonzero = positive_nonzero l parts.0 in
    not-both (is_true a l) (all l nonzero (holds-literals s l ∙ found.1)) (sym (is_true-neg_ℤ a l nonzero) ∙ all (neg_ℤ l) (neg_nonzero l nonzero) parts.1)

-- what is left of a satisfied clause has a true literal
pub true_rest : (a : Assignment) (s d : LiteralSet) → AllTrue a s → satisfies a d ≡ true → (l : ℤ) × (among l (rest d s) ≡ true) × (is_true a l ≡ true)
true_rest a s d all h =
    let found = true_literal a d h in
    let l : ℤ = found.0 in
    let nonzero = true_nonzero a l found.2 in
    let open_here : holds s (neg_ℤ l) ≡ false = false_from_ne_true (holds s (neg_ℤ l)) (λ e. not-both (is_true a l) found.2 (sym (is_true-neg_ℤ a l nonzero) ∙ all (neg_ℤ l) (neg_nonzero l nonzero) e)) in
    (l, kept (λ m. not (holds s (neg_ℤ m))) l (literals d) (sym (holds-literals d l) ∙ found.1) (not_from_false (holds s (neg_ℤ l)) open_here), found.2)

pub AllTrue-with_literal : (a : Assignment) (s : LiteralSet) (l : ℤ) → AllTrue a s → is_true a l ≡ true → AllTrue a (with_literal s l)
AllTrue-with_literal a s l all t m nonzero h =
    elim (or_cases (eq_by_cmp lit_cmp m l) (holds s m) (sym (holds-with_literal s l m) ∙ h)) [
      | inl e ↦ ap (is_true a) (same_literal m l e) ∙ t
      | inr e ↦ all m nonzero e
    ]

after_true : (a : Assignment) (n : ℕ) (w : Propagation) → StaysTrue a w → StaysTrue a (after_hint n w)
after_true a n (Closed used) h = h
after_true a n (Open t) h = h
after_true a n (Stuck position) h = tt

one_left : (a : Assignment) (l m : ℤ) → among m (l ∷ []) ≡ true → is_true a m ≡ true → is_true a l ≡ true
one_left a l m e t =
    elim (or_cases (eq_by_cmp lit_cmp m l) false e) [
      | inl same ↦ ap (is_true a) (sym (same_literal m l same)) ∙ t
      | inr none ↦ absurd (false≢true none)
    ]

rest_true : (a : Assignment) (n : ℕ) (s : LiteralSet) (ls : List ℤ) (onward : ℤ → Propagation) → (l : ℤ) × (among l ls ≡ true) × (is_true a l ≡ true) → ((l : ℤ) → is_true a l ≡ true → StaysTrue a (onward l)) → StaysTrue a (by_rest n ls onward)
rest_true a n s [] onward some go = false≢true some.1
rest_true a n s (l ∷ []) onward some go = after_true a n (onward l) (go l (one_left a l some.0 some.1 some.2))
rest_true a n s (l ∷ m ∷ ls) onward some go = tt

hint_true : (a : Assignment) (n : ℕ) (d : Option LiteralSet) (s : LiteralSet) (onward : ℤ → Propagation) → AllTrue a s → IfSome d (λ c. satisfies a c ≡ true) → ((l : ℤ) → is_true a l ≡ true → StaysTrue a (onward l)) → StaysTrue a (by_hint n d s onward)
hint_true a n None s onward all h go = tt
hint_true a n (Some d) s onward all h go = rest_true a n s (rest d s) onward (true_rest a s d all h) go

-- a propagation over satisfied clauses from true literals isn't closed, and all that it ends with is true
pub StaysTrue-propagate_over : (a : Assignment) (s : LiteralSet) (hs : List Hint) → SatisfiesHints a hs → AllTrue a s → StaysTrue a (propagate_over s hs)
unfolding propagate_over
StaysTrue-propagate_over a s [] sat all =
    elim (is_contradictory s) as (λ b. is_contradictory s ≡ b → StaysTrue a (cond b (Closed []) (Open s))) [
      | true ↦ λ e. AllTrue-not_contradictory a s all e
      | false ↦ λ e. all
    ] refl
StaysTrue-propagate_over a s (h ∷ hs) sat all =
    elim (is_contradictory s) as (λ b. is_contradictory s ≡ b → StaysTrue a (cond b (Closed []) (by_hint h.number h.clause s (λ l. propagate_over (with_literal s l) hs)))) [
      | true ↦ λ e. AllTrue-not_contradictory a s all e
      | false ↦ λ e. hint_true a h.number h.clause s (λ l. propagate_over (with_literal s l) hs) all sat.0 (λ l t. StaysTrue-propagate_over a (with_literal s l) hs sat.1 (AllTrue-with_literal a s l all t))
    ] refl

-- it isn't so that all is true where a propagation over satisfied clauses is closed
pub not_all_true : (a : Assignment) (s : LiteralSet) (hs : List Hint) (used : List ℕ) → propagate_over s hs ≡ Closed used → SatisfiesHints a hs → AllTrue a s → ⊥
not_all_true a s hs used e sat all = subst (StaysTrue a) e (StaysTrue-propagate_over a s hs sat all)

-- where it ends open, all that it ends with is true
pub all_true : (a : Assignment) (s t : LiteralSet) (hs : List Hint) → propagate_over s hs ≡ Open t → SatisfiesHints a hs → AllTrue a s → AllTrue a t
all_true a s t hs e sat all = subst (StaysTrue a) e (StaysTrue-propagate_over a s hs sat all)

-- the end of an open propagation holds all that it began with
abbrev HoldsAtEnd : LiteralSet → Propagation → Type 0
HoldsAtEnd s (Closed used) = Unit {0}
HoldsAtEnd s (Open t) = HoldsAllOf t s
HoldsAtEnd s (Stuck position) = Unit {0}

after_holds : (s : LiteralSet) (n : ℕ) (w : Propagation) → HoldsAtEnd s w → HoldsAtEnd s (after_hint n w)
after_holds s n (Closed used) h = tt
after_holds s n (Open t) h = h
after_holds s n (Stuck position) h = tt

rest_holds : (s : LiteralSet) (n : ℕ) (ls : List ℤ) (onward : ℤ → Propagation) → ((l : ℤ) → HoldsAtEnd s (onward l)) → HoldsAtEnd s (by_rest n ls onward)
rest_holds s n [] onward go = tt
rest_holds s n (l ∷ []) onward go = after_holds s n (onward l) (go l)
rest_holds s n (l ∷ m ∷ ls) onward go = tt

hint_holds : (s : LiteralSet) (n : ℕ) (d : Option LiteralSet) (onward : ℤ → Propagation) → ((l : ℤ) → HoldsAtEnd s (onward l)) → HoldsAtEnd s (by_hint n d s onward)
hint_holds s n None onward go = tt
hint_holds s n (Some d) onward go = rest_holds s n (rest d s) onward go

fewer : (s : LiteralSet) (l : ℤ) (w : Propagation) → HoldsAtEnd (with_literal s l) w → HoldsAtEnd s w
fewer s l (Closed used) h = tt
fewer s l (Open t) h = λ m e. h m (holds-with_literal s l m ∙ or_right (eq_by_cmp lit_cmp m l) (holds s m) e)
fewer s l (Stuck position) h = tt

HoldsAtEnd-propagate_over : (s : LiteralSet) (hs : List Hint) → HoldsAtEnd s (propagate_over s hs)
unfolding propagate_over
HoldsAtEnd-propagate_over s [] =
    elim (is_contradictory s) as (λ b. HoldsAtEnd s (cond b (Closed []) (Open s))) [
      | true ↦ tt
      | false ↦ λ l e. e
    ]
HoldsAtEnd-propagate_over s (h ∷ hs) =
    elim (is_contradictory s) as (λ b. HoldsAtEnd s (cond b (Closed []) (by_hint h.number h.clause s (λ l. propagate_over (with_literal s l) hs)))) [
      | true ↦ tt
      | false ↦ hint_holds s h.number h.clause (λ l. propagate_over (with_literal s l) hs) (λ l. fewer s l (propagate_over (with_literal s l) hs) (HoldsAtEnd-propagate_over (with_literal s l) hs))
    ]

-- the end of an open propagation holds all that it began with
pub HoldsAllOf-propagate_over : (s t : LiteralSet) (hs : List Hint) → propagate_over s hs ≡ Open t → HoldsAllOf t s
HoldsAllOf-propagate_over s t hs e = subst (HoldsAtEnd s) e (HoldsAtEnd-propagate_over s hs)

-- the clauses that hints name in a satisfied map are satisfied
pub SatisfiesHints-hints_in : (a : Assignment) (p : ClauseMap) (numbers : List ℕ) → SatisfiesAll a p → SatisfiesHints a (hints_in p numbers)
SatisfiesHints-hints_in a p [] all = tt
SatisfiesHints-hints_in a p (n ∷ ns) all = (named (get p n) refl, SatisfiesHints-hints_in a p ns all)
  where
    named : (d : Option LiteralSet) → get p n ≡ d → IfSome d (λ c. satisfies a c ≡ true)
    named None e = tt
    named (Some d) e = all n d e

-- where a clause isn't satisfied, its negations are true
pub AllTrue-negations : (a : Assignment) (c : LiteralSet) → satisfies a c ≡ false → AllTrue a (negations c)
AllTrue-negations a c f l nonzero h =
    ap (is_true a) (sym (neg_ℤ-neg_ℤ l))
    ∙ is_true-neg_ℤ a (neg_ℤ l) (neg_nonzero l nonzero)
    ∙ ap not (false_literal a c (neg_ℤ l) f (sym (holds-negations c l) ∙ h))

closed : (w : Propagation) → is_closed w ≡ true → (used : List ℕ) × (w ≡ Closed used)
closed (Closed used) e = (used, refl)
closed (Open t) e = absurd (false≢true e)
closed (Stuck position) e = absurd (false≢true e)

-- a closed propagation of a clause's negations implies the clause
pub satisfies-is_rup : (p : ClauseMap) (c : LiteralSet) (numbers : List ℕ) (a : Assignment) → is_rup p c numbers ≡ true → SatisfiesAll a p → satisfies a c ≡ true
satisfies-is_rup p c numbers a e all =
    elim (satisfies a c) as (λ b. satisfies a c ≡ b → b ≡ true) [
      | true ↦ λ f. refl
      | false ↦ λ f. let ends = closed (propagate p (negations c) numbers) e in absurd (not_all_true a (negations c) (hints_in p numbers) ends.0 ends.1 (SatisfiesHints-hints_in a p numbers all) (AllTrue-negations a c f))
    ] refl

-- the first hints, as many as a closed propagation read, close it in the same way, and their numbers are those that it tells
abbrev UsedClose : LiteralSet → List Hint → Propagation → Type 0
UsedClose s hs (Closed used) = (propagate_over s (take (length used) hs) ≡ Closed used) × (map (λ (h : Hint). h.number) (take (length used) hs) ≡ used)
UsedClose s hs (Open t) = Unit {0}
UsedClose s hs (Stuck position) = Unit {0}

-- propagation over a first hint, where the set isn't contradictory
first_step : (s : LiteralSet) (h : Hint) (hs : List Hint) → is_contradictory s ≡ false → propagate_over s (h ∷ hs) ≡ by_hint h.number h.clause s (λ l. propagate_over (with_literal s l) hs)
unfolding propagate_over
first_step s h hs e = ap (λ b. cond b (Closed []) (by_hint h.number h.clause s (λ l. propagate_over (with_literal s l) hs))) e

none_read : (s : LiteralSet) → is_contradictory s ≡ true → propagate_over s [] ≡ Closed []
unfolding propagate_over
none_read s e = ap (λ b. cond b (Closed []) (Open s)) e

after_used : (s : LiteralSet) (h : Hint) (hs : List Hint) (d : LiteralSet) (l : ℤ) (w : Propagation) → is_contradictory s ≡ false → h.clause ≡ Some d → rest d s ≡ l ∷ [] → UsedClose (with_literal s l) hs w → UsedClose s (h ∷ hs) (after_hint h.number w)
after_used s h hs d l (Closed used) e named left u = (
  first_step s h (take (length used) hs) e
      ∙ ap (λ o. by_hint h.number o s (λ m. propagate_over (with_literal s m) (take (length used) hs))) named
      ∙ ap (λ ls. by_rest h.number ls (λ m. propagate_over (with_literal s m) (take (length used) hs))) left
      ∙ ap (after_hint h.number) u.0,
  ap (λ ns. h.number ∷ ns) u.1,
)
after_used s h hs d l (Open t) e named left u = tt
after_used s h hs d l (Stuck position) e named left u = tt

rest_used : (s : LiteralSet) (h : Hint) (hs : List Hint) (d : LiteralSet) (ls : List ℤ) → is_contradictory s ≡ false → h.clause ≡ Some d → rest d s ≡ ls → ((l : ℤ) → UsedClose (with_literal s l) hs (propagate_over (with_literal s l) hs)) → UsedClose s (h ∷ hs) (by_rest h.number ls (λ l. propagate_over (with_literal s l) hs))
rest_used s h hs d [] e named left go = (
  first_step s h [] e
      ∙ ap (λ o. by_hint h.number o s (λ m. propagate_over (with_literal s m) [])) named
      ∙ ap (λ ls. by_rest h.number ls (λ m. propagate_over (with_literal s m) [])) left,
  refl,
)
rest_used s h hs d (l ∷ []) e named left go = after_used s h hs d l (propagate_over (with_literal s l) hs) e named left (go l)
rest_used s h hs d (l ∷ m ∷ ls) e named left go = tt

hint_used : (s : LiteralSet) (h : Hint) (hs : List Hint) (o : Option LiteralSet) → is_contradictory s ≡ false → h.clause ≡ o → ((l : ℤ) → UsedClose (with_literal s l) hs (propagate_over (with_literal s l) hs)) → UsedClose s (h ∷ hs) (by_hint h.number o s (λ l. propagate_over (with_literal s l) hs))
hint_used s h hs None e named go = tt
hint_used s h hs (Some d) e named go = rest_used s h hs d (rest d s) e named refl go

UsedClose-propagate_over : (s : LiteralSet) (hs : List Hint) → UsedClose s hs (propagate_over s hs)
unfolding propagate_over
UsedClose-propagate_over s [] =
    elim (is_contradictory s) as (λ b. is_contradictory s ≡ b → UsedClose s [] (cond b (Closed []) (Open s))) [
      | true ↦ λ e. (none_read s e, refl)
      | false ↦ λ e. tt
    ] refl
UsedClose-propagate_over s (h ∷ hs) =
    elim (is_contradictory s) as (λ b. is_contradictory s ≡ b → UsedClose s (h ∷ hs) (cond b (Closed []) (by_hint h.number h.clause s (λ l. propagate_over (with_literal s l) hs)))) [
      | true ↦ λ e. (none_read s e, refl)
      | false ↦ λ e. hint_used s h hs h.clause e refl (λ l. UsedClose-propagate_over (with_literal s l) hs)
    ] refl

-- the first hints, as many as a closed propagation read, close it in the same way
pub propagate_over-used : (s : LiteralSet) (hs : List Hint) (used : List ℕ) → propagate_over s hs ≡ Closed used → propagate_over s (take (length used) hs) ≡ Closed used
propagate_over-used s hs used e = (subst (UsedClose s hs) e (UsedClose-propagate_over s hs)).0

-- and their numbers are those that it tells
pub used-numbers : (s : LiteralSet) (hs : List Hint) (used : List ℕ) → propagate_over s hs ≡ Closed used → map (λ (h : Hint). h.number) (take (length used) hs) ≡ used
used-numbers s hs used e = (subst (UsedClose s hs) e (UsedClose-propagate_over s hs)).1

numbers_of : (p : ClauseMap) (ns : List ℕ) → map (λ (h : Hint). h.number) (hints_in p ns) ≡ ns
numbers_of p [] = refl
numbers_of p (n ∷ ns) = ap (λ ms. n ∷ ms) (numbers_of p ns)

first_hints : (p : ClauseMap) (k : ℕ) (ns : List ℕ) → take k (hints_in p ns) ≡ hints_in p (take k ns)
first_hints p k ns = take-map (λ n. record { number = n; clause = get p n }) k ns

-- the used hints of a closed propagation in a clause map are the first of its hints
pub used-first : (p : ClauseMap) (s : LiteralSet) (numbers used : List ℕ) → propagate p s numbers ≡ Closed used → take (length used) numbers ≡ used
used-first p s numbers used e =
    sym (numbers_of p (take (length used) numbers))
    ∙ ap (map (λ (h : Hint). h.number)) (sym (first_hints p (length used) numbers))
    ∙ used-numbers s (hints_in p numbers) used e

-- and they close the propagation in the same way
pub propagate-used : (p : ClauseMap) (s : LiteralSet) (numbers used : List ℕ) → propagate p s numbers ≡ Closed used → propagate p s used ≡ Closed used
propagate-used p s numbers used e =
    ap (λ ns. propagate p s ns) (sym (used-first p s numbers used e))
    ∙ ap (propagate_over s) (sym (first_hints p (length used) numbers))
    ∙ propagate_over-used s (hints_in p numbers) used e

-- ---- which hints name a clause

-- the hints that a propagation read name clauses: those that closed it, or all of an open one
abbrev ReadNamed : List Hint → Propagation → Type 0
ReadNamed hs (Closed used) = AllByRecursion (λ (h : Hint). is_some h.clause ≡ true) (take (length used) hs)
ReadNamed hs (Open t) = AllByRecursion (λ (h : Hint). is_some h.clause ≡ true) hs
ReadNamed hs (Stuck position) = Unit {0}

after_named : (h : Hint) (hs : List Hint) (w : Propagation) → is_some h.clause ≡ true → ReadNamed hs w → ReadNamed (h ∷ hs) (after_hint h.number w)
after_named h hs (Closed used) e g = (e, g)
after_named h hs (Open t) e g = (e, g)
after_named h hs (Stuck position) e g = tt

rest_named : (h : Hint) (hs : List Hint) (ls : List ℤ) (onward : ℤ → Propagation) → is_some h.clause ≡ true → ((l : ℤ) → ReadNamed hs (onward l)) → ReadNamed (h ∷ hs) (by_rest h.number ls onward)
rest_named h hs [] onward e go = (e, tt)
rest_named h hs (l ∷ []) onward e go = after_named h hs (onward l) e (go l)
rest_named h hs (l ∷ m ∷ ls) onward e go = tt

hint_named : (h : Hint) (hs : List Hint) (s : LiteralSet) (o : Option LiteralSet) (onward : ℤ → Propagation) → h.clause ≡ o → ((l : ℤ) → ReadNamed hs (onward l)) → ReadNamed (h ∷ hs) (by_hint h.number o s onward)
hint_named h hs s None onward e go = tt
hint_named h hs s (Some d) onward e go = rest_named h hs (rest d s) onward (ap is_some e) go

ReadNamed-propagate_over : (s : LiteralSet) (hs : List Hint) → ReadNamed hs (propagate_over s hs)
unfolding propagate_over
ReadNamed-propagate_over s [] =
    elim (is_contradictory s) as (λ b. ReadNamed [] (cond b (Closed []) (Open s))) [
      | true ↦ tt
      | false ↦ tt
    ]
ReadNamed-propagate_over s (h ∷ hs) =
    elim (is_contradictory s) as (λ b. ReadNamed (h ∷ hs) (cond b (Closed []) (by_hint h.number h.clause s (λ l. propagate_over (with_literal s l) hs)))) [
      | true ↦ tt
      | false ↦ hint_named h hs s h.clause (λ l. propagate_over (with_literal s l) hs) refl (λ l. ReadNamed-propagate_over (with_literal s l) hs)
    ]

numbers_named : (p : ClauseMap) (ns : List ℕ) → AllByRecursion (λ (h : Hint). is_some h.clause ≡ true) (hints_in p ns) → AllByRecursion (λ n. contains_key p n ≡ true) ns
numbers_named p [] h = tt
numbers_named p (n ∷ ns) h = (h.0, numbers_named p ns h.1)

-- the hints that closed a propagation in a clause map are in the map
pub used-in : (p : ClauseMap) (s : LiteralSet) (numbers used : List ℕ) → propagate p s numbers ≡ Closed used → AllByRecursion (λ n. contains_key p n ≡ true) used
used-in p s numbers used e =
    subst (AllByRecursion (λ n. contains_key p n ≡ true)) (used-first p s numbers used e)
    (numbers_named p (take (length used) numbers)
    (subst (AllByRecursion (λ (h : Hint). is_some h.clause ≡ true)) (first_hints p (length used) numbers) (subst (ReadNamed (hints_in p numbers)) e (ReadNamed-propagate_over s (hints_in p numbers)))))

-- all hints of an open propagation are
pub open-in : (p : ClauseMap) (s t : LiteralSet) (numbers : List ℕ) → propagate p s numbers ≡ Open t → AllByRecursion (λ n. contains_key p n ≡ true) numbers
open-in p s t numbers e = numbers_named p numbers (subst (ReadNamed (hints_in p numbers)) e (ReadNamed-propagate_over s (hints_in p numbers)))

-- a test of each element, as one answer
pub list_all-each : {X : Type 0} (test : X → Bool) (xs : List X) → AllByRecursion (λ x. test x ≡ true) xs → list_all test xs ≡ true
list_all-each test [] h = refl
list_all-each test (x ∷ xs) h = and_from (test x) (list_all test xs) h.0 (list_all-each test xs h.1)

-- the same two, as one answer
pub used-all_in : (p : ClauseMap) (s : LiteralSet) (numbers used : List ℕ) → propagate p s numbers ≡ Closed used → list_all (contains_key p) used ≡ true
used-all_in p s numbers used e = list_all-each (contains_key p) used (used-in p s numbers used e)

pub open-all_in : (p : ClauseMap) (s t : LiteralSet) (numbers : List ℕ) → propagate p s numbers ≡ Open t → list_all (contains_key p) numbers ≡ true
open-all_in p s t numbers e = list_all-each (contains_key p) numbers (open-in p s t numbers e)

-- ---- maps that agree

hints_in-agree : (p q : ClauseMap) (numbers : List ℕ) → AllByRecursion (λ n. get p n ≡ get q n) numbers → hints_in p numbers ≡ hints_in q numbers
hints_in-agree p q [] h = refl
hints_in-agree p q (n ∷ ns) h = λ i. record { number = n; clause = h.0 i } ∷ hints_in-agree p q ns h.1 i

-- a propagation depends on nothing of the map but the clauses that its hints name
pub propagate-agree : (p q : ClauseMap) (s : LiteralSet) (numbers : List ℕ) → AllByRecursion (λ n. get p n ≡ get q n) numbers → propagate p s numbers ≡ propagate q s numbers
propagate-agree p q s numbers h = ap (propagate_over s) (hints_in-agree p q numbers h)
