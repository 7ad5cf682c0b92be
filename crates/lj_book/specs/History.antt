-- What an entry leaves, and when a history is legal.
use Rattle.std.specs.Prelude.{◌≡◌, ℕ, ◌<◌, true, false, not, List, [], ◌∷◌, ◌++◌, Option, Some, None, filter, is_some}
use Rattle.std.specs.FinMap as fin
use Rattle.lj_clause.specs.LiteralSet.{LiteralSet}
use Rattle.lj_clause.specs.Lemma.{LemmaValue}
use Rattle.lj_text.specs.declared.step.Step.{Step}
use Rattle.lj_text.specs.declared.step.Step.TheVariants as steps
use Rattle.lj_text.specs.Steps.{is_accepted, IsRecorded}
use Rattle.lj_text.specs.Needed.{if_some}
use Rattle.lj_book.specs.declared.entry.Call.{Call}
use Rattle.lj_book.specs.declared.entry.Call.TheVariants as calls
use Rattle.lj_book.specs.declared.entry.Entry.{Entry}
use Rattle.lj_book.specs.Tables.{Tables, is_here, is_bound, has_holder, with_table, with_binding, without_keys, without_seat}
use Rattle.lj_book.specs.State.{State, addition_count, next, live, opening}
use Rattle.lj_book.specs.Imports.{import_step, import_number}

-- the tables where the seat's own number is bound to the joint number, if there is one
abbrev pub with_found : Tables → ℕ → ℕ → Option ℕ → Tables
with_found tables seat own None = tables
with_found tables seat own (Some joint) = with_binding tables seat own joint

-- the tables that a call of the seat leaves: an addition takes the next joint number
abbrev pub tables_after : State → ℕ → Call → Tables
tables_after s seat (calls.Add own lemma) = with_binding s.tables seat own (next s)
tables_after s seat (calls.Drop numbers) = with_table (without_keys numbers) s.tables seat
tables_after s seat (calls.Adopt own joint) = with_binding s.tables seat own joint
tables_after s seat (calls.Import own clause) =
    with_found s.tables seat own (import_number s clause)
tables_after s seat calls.Leave = without_seat s.tables seat

-- the numbers that are live and no longer are with these tables, rising
abbrev pub dead_numbers : State → Tables → List ℕ
dead_numbers s tables = filter (λ n. not (has_holder tables n)) (fin.keys (live s))

-- the state that an entry leaves
abbrev pub after_entry : State → Entry → State
after_entry s e = record s { tables = tables_after s e.seat e.call; history = s.history ++ e ∷ [] }

-- the state that a list of entries leaves
abbrev pub after_entries : State → List Entry → State
after_entries s [] = s
after_entries s (e ∷ es) = after_entries (after_entry s e) es

-- The step adds the lemma under the next number, is accepted by the live clauses, and is in recorded form.
abbrev pub IsAdditionOf : State → LemmaValue → Option Step → Type 0
IsAdditionOf s lemma None = ⊥
IsAdditionOf s lemma (Some (steps.Delete numbers)) = ⊥
IsAdditionOf s lemma (Some (steps.Add a)) =
    (a.number ≡ next s) × ((a.lemma ≡ lemma)
    × ((is_accepted (live s) (steps.Add a) ≡ true) × IsRecorded (live s) a))

-- An addition is legal where the seat is there, its own number is unbound, and there is room for its step.
pub record IsLegalAddition (s : State) (seat own : ℕ) (lemma : LemmaValue)
    (step : Option Step) : Type 0 where
  pub here : is_here s.tables seat ≡ true
  pub unbound : is_bound s.tables seat own ≡ false
  pub capacity : addition_count s.history < s.max_steps
  pub addition : IsAdditionOf s lemma step

-- A drop is legal where the seat is there and the step, if there is one, deletes what died.
pub record IsLegalDrop (s : State) (seat : ℕ) (numbers : List ℕ) (step : Option Step) : Type 0 where
  pub here : is_here s.tables seat ≡ true
  pub deletes : step ≡ if_some (dead_numbers s (with_table (without_keys numbers) s.tables seat))

-- An adoption is legal where the seat is there, its own number is unbound, the joint number lives, and there is no step.
pub record IsLegalAdoption (s : State) (seat own joint : ℕ) (step : Option Step) : Type 0 where
  pub here : is_here s.tables seat ≡ true
  pub unbound : is_bound s.tables seat own ≡ false
  pub lives : fin.contains_key (live s) joint ≡ true
  pub stepless : step ≡ None

-- An import is legal where the seat is there, its own number is unbound, something is found, and the step is what that
-- asks for. There is room for a step.
pub record IsLegalImport (s : State) (seat own : ℕ) (clause : LiteralSet)
    (step : Option Step) : Type 0 where
  pub here : is_here s.tables seat ≡ true
  pub unbound : is_bound s.tables seat own ≡ false
  pub finds : is_some (import_number s clause) ≡ true
  pub capacity : is_some step ≡ true → addition_count s.history < s.max_steps
  pub asked : step ≡ import_step s clause

-- A leave is legal where the seat is there and the step, if there is one, deletes what died.
pub record IsLegalLeave (s : State) (seat : ℕ) (step : Option Step) : Type 0 where
  pub here : is_here s.tables seat ≡ true
  pub deletes : step ≡ if_some (dead_numbers s (without_seat s.tables seat))

-- the call of a seat and its step are legal in the state
abbrev pub IsLegalCall : State → ℕ → Call → Option Step → Type 0
IsLegalCall s seat (calls.Add own lemma) step = IsLegalAddition s seat own lemma step
IsLegalCall s seat (calls.Drop numbers) step = IsLegalDrop s seat numbers step
IsLegalCall s seat (calls.Adopt own joint) step = IsLegalAdoption s seat own joint step
IsLegalCall s seat (calls.Import own clause) step = IsLegalImport s seat own clause step
IsLegalCall s seat calls.Leave step = IsLegalLeave s seat step

-- The entry is legal in the state.
abbrev pub IsLegal : State → Entry → Type 0
IsLegal s e = IsLegalCall s e.seat e.call e.step

-- Each entry is legal in the state that those before it leave.
abbrev pub AreLegal : State → List Entry → Type 0
AreLegal s [] = Unit {0}
AreLegal s (e ∷ es) = IsLegal s e × AreLegal (after_entry s e) es

-- A legal history leads from the opening with some seats to the state.
pub record IsReached (s : State) : Type 0 where
  pub seats : ℕ
  pub some_seat : 0 < seats
  pub legal : AreLegal (opening s.formula seats s.max_steps) s.history
  pub leads : after_entries (opening s.formula seats s.max_steps) s.history ≡ s
