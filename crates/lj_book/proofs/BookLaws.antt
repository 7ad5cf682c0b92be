-- What a book keeps, over its calls.
use Rattle.std.proofs.Common.{◌≡◌, ap, refl, sym, ◌∙◌, subst, ℕ, ◌+◌, ◌<◌, Bool, true, false, arith}
use Rattle.std.specs.Prelude.{List, [], ◌∷◌, ◌++◌, length, Option, Some, None, filter, filter_map, not, ◌||◌, ◌&&◌, if◌then◌else◌, is_some}
use Rattle.std.specs.List.{cons_option, list_any}
use Rattle.std.specs.List.Sorted.{IsStrictlySortedBy}
use Rattle.std.proofs.lemmas.Bool.{false≢true, and_from}
use Rattle.std.specs.Ordering.{nat_cmp}
use Rattle.lj_clause.specs.ClauseMap.{ClauseMap, FormulaValue, formula_map}
use Rattle.lj_text.specs.declared.step.Step.{Step}
use Rattle.lj_text.specs.Steps.{without, adds_empty, replay, refutes}
use Rattle.lj_text.proofs.StepLaws.{unsatisfiable-refutes}
use Rattle.lj_text.specs.Needed.{additions, if_some}
use Rattle.lj_book.specs.declared.entry.Call.TheVariants as calls
use Rattle.lj_book.specs.declared.entry.Entry.{Entry}
use Rattle.lj_book.specs.Tables.{Tables, is_here, joint_of, has_holder, is_among, with_table, without_keys}
use Rattle.lj_book.specs.State.{State, steps_of, live, opening, is_refutation, verdict_from, verdict}
use Rattle.lj_clause.specs.Truth.{IsUnsatisfiable}
use Rattle.lj_book.specs.History.{dead_numbers, after_entry, IsReached}
use Rattle.lj_book.specs.Calls.{drop_entry}
use Rattle.lj_book.specs.inner.Kept.{IsKept}
use Rattle.lj_book.proofs.HistoryLaws.{IsSound, IsSound-reached, IsReached-opening, IsReached-after, live-opening, live-drop, steps_of-push, additions-append, none_added, has_table}
use Rattle.lj_book.proofs.DropLaws.{died_are}

pub not_false : (b : Bool) → not b ≡ false → b ≡ true
not_false true h = refl
not_false false h = absurd (false≢true (sym h))

-- two states of equal parts
pub same_state : (f : FormulaValue) (max : ℕ) (ts us : Tables) (h k : List Entry) → ts ≡ us → h ≡ k → ◌≡◌ {A = State} (record { formula = f; max_steps = max; tables = ts; history = h }) (record { formula = f; max_steps = max; tables = us; history = k })
same_state f max ts us h k a b = λ i. record { formula = f; max_steps = max; tables = a i; history = b i }

pub IsKept-opening : (f : FormulaValue) (seats max : ℕ) (m : ClauseMap) → 0 < seats → m ≡ formula_map f → IsKept (opening f seats max) m 0 None
IsKept-opening f seats max m some is = record {
  reached = IsReached-opening f seats max some;
  lives = is ∙ sym (live-opening f seats max some);
  additions = refl;
  first_empty = refl;
}

-- ---- the first empty clause, with one entry more

or_else : Option ℕ → Option ℕ → Option ℕ
or_else None later = later
or_else (Some place) later = Some place

verdict_from-push : (n : ℕ) (es : List Entry) (e : Entry) → verdict_from n (es ++ e ∷ []) ≡ or_else (verdict_from n es) (if is_refutation e.step then Some (n + length es) else None)
unfolding or_else
verdict_from-push n [] e = ap (λ (k : ℕ). if is_refutation e.step then Some k else None) (omega arith)
verdict_from-push n (x ∷ es) e =
    elim (is_refutation x.step) as (λ b. (if b then Some n else verdict_from (n + 1) (es ++ e ∷ [])) ≡ or_else (if b then Some n else verdict_from (n + 1) es) (if is_refutation e.step then Some (n + length (x ∷ es)) else None)) [
      | true ↦ refl
      | false ↦ verdict_from-push (n + 1) es e ∙ ap (λ (k : ℕ). or_else (verdict_from (n + 1) es) (if is_refutation e.step then Some k else None)) (omega arith)
    ]

none_later : (o : Option ℕ) → or_else o None ≡ o
unfolding or_else
none_later None = refl
none_later (Some place) = refl

-- an entry without an empty clause leaves the verdict
pub verdict-same : (es : List Entry) (e : Entry) → is_refutation e.step ≡ false → verdict (es ++ e ∷ []) ≡ verdict es
verdict-same es e h =
    verdict_from-push 0 es e
    ∙ ap (λ b. or_else (verdict_from 0 es) (if b then Some (0 + length es) else None)) h
    ∙ none_later (verdict_from 0 es)

-- one with it gives the verdict its place, if there was none
pub verdict-first : (es : List Entry) (e : Entry) → is_refutation e.step ≡ true → verdict es ≡ None → verdict (es ++ e ∷ []) ≡ Some (length es)
unfolding or_else
verdict-first es e h none =
    verdict_from-push 0 es e
    ∙ ap (λ b. or_else (verdict_from 0 es) (if b then Some (0 + length es) else None)) h
    ∙ ap (λ o. or_else o (Some (0 + length es))) none
    ∙ ap Some (omega arith)

pub verdict-stays : (es : List Entry) (e : Entry) (place : ℕ) → verdict es ≡ Some place → verdict (es ++ e ∷ []) ≡ Some place
unfolding or_else
verdict-stays es e place some = verdict_from-push 0 es e ∙ ap (λ o. or_else o (if is_refutation e.step then Some (0 + length es) else None)) some

pub deletion_is_none : (ns : List ℕ) → is_refutation (if_some ns) ≡ false
deletion_is_none [] = refl
deletion_is_none (n ∷ ns) = refl

-- ---- a drop

pub IsKept-drop : (s : State) (m n : ClauseMap) (count : ℕ) (refuted : Option ℕ) (seat : ℕ) (numbers : List ℕ) → IsKept s m count refuted → is_here s.tables seat ≡ true → n ≡ without m (dead_numbers s (with_table (without_keys numbers) s.tables seat)) → IsKept (after_entry s (drop_entry s seat numbers)) n count refuted
IsKept-drop s m n count refuted seat numbers kept here is =
    let dead = dead_numbers s (with_table (without_keys numbers) s.tables seat) in
    let e = drop_entry s seat numbers in
    let more = ap (λ ss. length (additions ss)) (steps_of-push s.history e) ∙ additions-append (steps_of s.history) (cons_option e.step []) in
    let nothing = ap length (none_added dead) in
    let before = kept.additions in
    record {
      reached = IsReached-after s e kept.reached (record { here = here; deletes = refl });
      lives = is ∙ ap (λ (p : ClauseMap). without p dead) kept.lives ∙ sym (live-drop s seat numbers e.step (IsSound-reached s kept.reached) here (none_added dead));
      additions = omega arith;
      first_empty = kept.first_empty ∙ sym (verdict-same s.history e (deletion_is_none dead));
    }

-- the numbers that the code finds are those that died
pub found_dead : (s : State) (seat : ℕ) (numbers rising dead : List ℕ) (tables : Tables) → IsSound s → is_here s.tables seat ≡ true → tables ≡ with_table (without_keys numbers) s.tables seat → IsStrictlySortedBy nat_cmp rising → ((q : ℕ) → is_among rising q ≡ is_among (filter_map (joint_of s.tables seat) numbers) q) → dead ≡ filter (λ n. not (has_holder tables n)) rising → dead ≡ dead_numbers s (with_table (without_keys numbers) s.tables seat)
found_dead s seat numbers rising dead tables sound here is sorted same found =
    let t = has_table s.tables seat here in
    found ∙ ap (λ (ts : Tables). filter (λ n. not (has_holder ts n)) rising) is ∙ died_are s seat t.0 numbers rising sound t.1 sorted same

pub dropped_state : (s : State) (seat : ℕ) (numbers written dead : List ℕ) (tables : Tables) (step : Option Step) (history : List Entry) → tables ≡ with_table (without_keys numbers) s.tables seat → written ≡ numbers → dead ≡ dead_numbers s (with_table (without_keys numbers) s.tables seat) → step ≡ if_some dead → history ≡ s.history ++ record { seat = seat; call = calls.Drop written; step = step } ∷ [] → ◌≡◌ {A = State} (record { formula = s.formula; max_steps = s.max_steps; tables = tables; history = history }) (after_entry s (drop_entry s seat numbers))
dropped_state s seat numbers written dead tables step history is same found step_is pushed =
    same_state s.formula s.max_steps tables _ history _ is
    (pushed
    ∙ ap (λ (ns : List ℕ). s.history ++ record { seat = seat; call = calls.Drop ns; step = step } ∷ []) same
    ∙ ap (λ (o : Option Step). s.history ++ record { seat = seat; call = calls.Drop numbers; step = o } ∷ []) (step_is ∙ ap if_some found))

-- ---- the steps

-- the live clauses are the replay of the steps
pub replayed : (s t : State) → s ≡ t → IsReached s → replay (formula_map t.formula) (steps_of t.history) ≡ Some (live t)
replayed s t is reached = subst (λ (u : State). replay (formula_map u.formula) (steps_of u.history) ≡ Some (live u)) is (IsSound-reached s reached).replayed

-- ---- the verdict

empty_among : (n : ℕ) (es : List Entry) → is_some (verdict_from n es) ≡ list_any adds_empty (steps_of es)
empty_among n [] = refl
empty_among n (e ∷ es) = go e.step (verdict_from (n + 1) es) (empty_among (n + 1) es)
  where
    go : (o : Option Step) (later : Option ℕ) → is_some later ≡ list_any adds_empty (steps_of es) → is_some (if is_refutation o then Some n else later) ≡ list_any adds_empty (cons_option o (steps_of es))
    go None later e = e
    go (Some x) later e = elim (adds_empty x) as (λ b. is_some (if b then Some n else later) ≡ (b || list_any adds_empty (steps_of es))) [ true ↦ refl | false ↦ e ]

-- there is a verdict exactly where the steps refute the formula
pub verdict_refutes : (s : State) → IsReached s → is_some (verdict s.history) ≡ refutes s.formula (steps_of s.history)
verdict_refutes s reached =
    empty_among 0 s.history
    ∙ sym (ap (λ (o : Option ClauseMap). is_some o && list_any adds_empty (steps_of s.history)) (replayed s s refl reached))

-- the place that is kept tells it
pub told_refutes : (s t : State) (m : ClauseMap) (count : ℕ) (refuted : Option ℕ) → s ≡ t → IsKept s m count refuted → is_some refuted ≡ refutes t.formula (steps_of t.history)
told_refutes s t m count refuted is kept =
    ap is_some kept.first_empty ∙ verdict_refutes s kept.reached ∙ ap (λ (u : State). refutes u.formula (steps_of u.history)) is

-- with a verdict the formula is unsatisfiable
pub refuted_unsatisfiable : (s : State) (m : ClauseMap) (count : ℕ) (refuted : Option ℕ) → IsKept s m count refuted → is_some refuted ≡ true → IsUnsatisfiable s.formula
refuted_unsatisfiable s m count refuted kept h =
    let replayed = (IsSound-reached s kept.reached).replayed in
    let empty = sym (empty_among 0 s.history) ∙ ap is_some (sym kept.first_empty) ∙ h in
    unsatisfiable-refutes s.formula (steps_of s.history) (and_from (is_some (replay (formula_map s.formula) (steps_of s.history))) (list_any adds_empty (steps_of s.history)) (ap is_some replayed) empty)
