-- What a seat leaves behind.
use Rattle.std.proofs.Common.{◌≡◌, ap, refl, sym, ◌∙◌, subst, ℕ, zero, suc, ◌+◌, Bool, cond, true, arith}
use Rattle.std.specs.Prelude.{List, [], ◌∷◌, ◌++◌, length, map, Option, Some, None, option_map, filter, filter_map, not, ◌||◌, is_some, set}
use Rattle.std.specs.List.{cons_option}
use Rattle.std.specs.List.Sorted.{IsStrictlySortedBy}
use Rattle.std.specs.Ordering.{nat_cmp}
use Rattle.std.specs.FinMap as fin
use Rattle.lj_clause.specs.ClauseMap.{ClauseMap}
use Rattle.lj_text.specs.declared.step.Step.{Step}
use Rattle.lj_text.specs.Steps.{without}
use Rattle.lj_text.specs.Needed.{additions, if_some}
use Rattle.lj_book.specs.declared.entry.Call.TheVariants as calls
use Rattle.lj_book.specs.declared.entry.Entry.{Entry}
use Rattle.lj_book.specs.Tables.{Table, Tables, table_of, is_here, joint_of, has_holder, holds_joint, is_among, with_table, without_keys, without_seat}
use Rattle.lj_book.specs.inner.Tables.{own_numbers}
use Rattle.lj_book.specs.inner.Holders.{Counted, AreHolders, holders_of}
use Rattle.lj_book.specs.State.{State, steps_of, live}
use Rattle.lj_book.specs.History.{dead_numbers, after_entry}
use Rattle.lj_book.specs.Calls.{leave_entry}
use Rattle.lj_book.specs.inner.Kept.{IsKept}
use Rattle.lj_book.proofs.NumberMaps.{same_map}
use Rattle.lj_book.proofs.TableLaws.{count-empty, entries-empty, get-without_keys, table_of-with_table}
use Rattle.lj_book.proofs.HistoryLaws.{IsSound, IsSound-reached, IsReached-after, live-leave, steps_of-push, additions-append, none_added, among-keys, has_table}
use Rattle.lj_book.proofs.BookLaws.{same_state, verdict-same, deletion_is_none, found_dead}

-- ---- the tables

pub set-none : (ts : Tables) (seat : ℕ) → set ts seat None ≡ without_seat ts seat
set-none [] seat = refl
set-none (t ∷ ts) zero = refl
set-none (t ∷ ts) (suc seat) = ap (λ us. t ∷ us) (set-none ts seat)

pub without_seat-with_table : (f : Table → Table) (ts : Tables) (seat : ℕ) → without_seat (with_table f ts seat) seat ≡ without_seat ts seat
without_seat-with_table f [] seat = refl
without_seat-with_table f (t ∷ ts) zero = refl
without_seat-with_table f (t ∷ ts) (suc seat) = ap (λ us. t ∷ us) (without_seat-with_table f ts seat)

-- a seat that holds nothing counts nothing
holders-without_seat : (ts : Tables) (seat q : ℕ) → table_of ts seat ≡ Some fin.empty → holders_of (without_seat ts seat) q ≡ holders_of ts q
holders-without_seat [] seat q h = refl
holders-without_seat (None ∷ ts) zero q h = refl
holders-without_seat (Some u ∷ ts) zero q h =
    let is : u ≡ fin.empty = cc in
    let none = count-empty q in
    subst (λ (w : Table). 0 + holders_of ts q ≡ holders_of (Some w ∷ ts) q) (sym is) (omega arith)
holders-without_seat (t ∷ ts) (suc seat) q h = let rest = holders-without_seat ts seat q h in omega arith

pub AreHolders-without_seat : (ts : Tables) (seat : ℕ) (m : Counted) → table_of ts seat ≡ Some fin.empty → AreHolders ts m → AreHolders (set ts seat None) m
AreHolders-without_seat ts seat m h holders = λ q. holders q ∙ sym (holders-without_seat ts seat q h) ∙ ap (λ (us : Tables). holders_of us q) (sym (set-none ts seat))

-- a table without its own keys
pub nothing_left : (t : Table) → without_keys (fin.keys t) t ≡ fin.empty
nothing_left t = same_map _ _ (λ q.
    get-without_keys (fin.keys t) t q
    ∙ ap (λ b. cond (not b) (fin.get t q) None) (among-keys t q)
    ∙ none (fin.get t q)
    ∙ sym (fin.get-empty nat_cmp q))
  where
    none : (o : Option ℕ) → cond (not (is_some o)) o None ≡ None
    none None = refl
    none (Some j) = refl

pub emptied : (ts us : Tables) (seat : ℕ) (numbers : List ℕ) → is_here ts seat ≡ true → numbers ≡ own_numbers (table_of ts seat) → us ≡ with_table (without_keys numbers) ts seat → table_of us seat ≡ Some fin.empty
emptied ts us seat numbers here all is =
    let t = has_table ts seat here in
    ap (λ (vs : Tables). table_of vs seat) is
    ∙ table_of-with_table (without_keys numbers) ts seat
    ∙ ap (option_map (without_keys numbers)) t.1
    ∙ ap (λ ns. Some (without_keys ns t.0)) (all ∙ ap own_numbers t.1)
    ∙ ap Some (nothing_left t.0)

-- the same is held, whether a seat holds nothing or is gone
held-emptied : (ts : Tables) (seat q : ℕ) → table_of ts seat ≡ Some fin.empty → has_holder (without_seat ts seat) q ≡ has_holder ts q
held-emptied [] seat q h = refl
held-emptied (None ∷ ts) zero q h = refl
held-emptied (Some u ∷ ts) zero q h =
    let is : u ≡ fin.empty = cc in
    sym (ap (λ (w : Table). holds_joint q (Some w) || has_holder ts q) is ∙ ap (λ es. is_among (map (λ (e : ℕ × ℕ). e.1) es) q || has_holder ts q) entries-empty)
held-emptied (t ∷ ts) (suc seat) q h = ap (λ b. holds_joint q t || b) (held-emptied ts seat q h)

held-left : (ts : Tables) (seat q : ℕ) (numbers : List ℕ) → is_here ts seat ≡ true → numbers ≡ own_numbers (table_of ts seat) → has_holder (without_seat ts seat) q ≡ has_holder (with_table (without_keys numbers) ts seat) q
held-left ts seat q numbers here all =
    ap (λ (us : Tables). has_holder us q) (sym (without_seat-with_table (without_keys numbers) ts seat))
    ∙ held-emptied (with_table (without_keys numbers) ts seat) seat q (emptied ts _ seat numbers here all refl)

-- ---- what died

filter-same : (p r : ℕ → Bool) (ns : List ℕ) → ((n : ℕ) → p n ≡ r n) → filter p ns ≡ filter r ns
filter-same p r [] e = refl
filter-same p r (n ∷ ns) e = λ i. cond (e n i) (n ∷ filter-same p r ns e i) (filter-same p r ns e i)

-- the numbers that the code finds are those that died
pub left_dead : (s : State) (seat : ℕ) (numbers rising dead : List ℕ) (tables : Tables) → IsSound s → is_here s.tables seat ≡ true → numbers ≡ own_numbers (table_of s.tables seat) → tables ≡ without_seat s.tables seat → IsStrictlySortedBy nat_cmp rising → ((q : ℕ) → is_among rising q ≡ is_among (filter_map (joint_of s.tables seat) numbers) q) → dead ≡ filter (λ n. not (has_holder tables n)) rising → dead ≡ dead_numbers s (without_seat s.tables seat)
left_dead s seat numbers rising dead tables sound here all is sorted same found =
    let us : Tables = with_table (without_keys numbers) s.tables seat in
    let each : (n : ℕ) → not (has_holder (without_seat s.tables seat) n) ≡ not (has_holder us n) = λ n. ap not (held-left s.tables seat n numbers here all) in
    found_dead s seat numbers rising dead us sound here refl sorted same
    (found ∙ ap (λ (ts : Tables). filter (λ n. not (has_holder ts n)) rising) is ∙ filter-same _ _ rising each)
    ∙ sym (filter-same _ _ (fin.keys (live s)) each)

-- ---- the book

pub IsKept-leave : (s : State) (m n : ClauseMap) (count : ℕ) (refuted : Option ℕ) (seat : ℕ) → IsKept s m count refuted → is_here s.tables seat ≡ true → n ≡ without m (dead_numbers s (without_seat s.tables seat)) → IsKept (after_entry s (leave_entry s seat)) n count refuted
IsKept-leave s m n count refuted seat kept here is =
    let dead = dead_numbers s (without_seat s.tables seat) in
    let e = leave_entry s seat in
    let more = ap (λ ss. length (additions ss)) (steps_of-push s.history e) ∙ additions-append (steps_of s.history) (cons_option e.step []) in
    let nothing = ap length (none_added dead) in
    let before = kept.additions in
    record {
      reached = IsReached-after s e kept.reached (record { here = here; deletes = refl });
      lives = is ∙ ap (λ (p : ClauseMap). without p dead) kept.lives ∙ sym (live-leave s seat e.step (IsSound-reached s kept.reached) (none_added dead));
      additions = omega arith;
      first_empty = kept.first_empty ∙ sym (verdict-same s.history e (deletion_is_none dead));
    }

pub left_state : (s : State) (seat : ℕ) (dead : List ℕ) (tables : Tables) (step : Option Step) (history : List Entry) → tables ≡ without_seat s.tables seat → dead ≡ dead_numbers s (without_seat s.tables seat) → step ≡ if_some dead → history ≡ s.history ++ record { seat = seat; call = calls.Leave; step = step } ∷ [] → ◌≡◌ {A = State} (record { formula = s.formula; max_steps = s.max_steps; tables = tables; history = history }) (after_entry s (leave_entry s seat))
left_state s seat dead tables step history is found step_is pushed =
    same_state s.formula s.max_steps tables _ history _ is
    (pushed ∙ ap (λ (o : Option Step). s.history ++ record { seat = seat; call = calls.Leave; step = o } ∷ []) (step_is ∙ ap if_some found))
