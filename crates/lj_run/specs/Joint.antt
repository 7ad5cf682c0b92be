-- What comes of a run of streams beside one another, on one shared book.
use Rattle.std.specs.Prelude.{◌≡◌, ℕ, ◌+◌, Bool, true, false, List, [], ◌∷◌, length, map, Option, None, Some, Result, Ok, Err, slice_get, if◌then◌else◌}
use Rattle.std.specs.List.{sum_by}
use Rattle.lj_clause.specs.ClauseMap.{FormulaValue, formula_map}
use Rattle.lj_clause.specs.Truth.{IsUnsatisfiable}
use Rattle.lj_text.specs.declared.line.Line.{Line}
use Rattle.lj_text.specs.declared.lines.fault.LineFaultKind.{LineFaultKind}
use Rattle.lj_text.specs.Lines.{Said}
use Rattle.lj_text.specs.Steps.{replay, refutes}
use Rattle.lj_text.specs.Streams.{SourceState}
use Rattle.lj_book.specs.declared.entry.Call.{Call}
use Rattle.lj_book.specs.declared.refusal.Refusal.{Refusal}
use Rattle.lj_book.specs.State.{live, steps_of}
use Rattle.lj_book.specs.Named.{NamedState, IsNamedReached, beneath}
use Rattle.lj_share.specs.Entries.{call_of}
use Rattle.lj_share.specs.Refusals.{IsLineRefused}
use Rattle.lj_share.specs.Seats.{SeatValue, IsOpenedAs, seat_of_book}
use Rattle.lj_run.specs.declared.outcome.End.TheVariants.{Stopped}
use Rattle.lj_run.specs.declared.outcome.Outcome.{Outcome}
use Rattle.lj_run.specs.declared.outcome.Report.{Report}
use Rattle.lj_run.specs.declared.outcome.RunFault.{RunFault}
use Rattle.lj_run.specs.declared.outcome.RunFault.TheVariants.{Formula, FormulaRead, NoMemory, Unconfirmed}
use Rattle.lj_run.specs.FormulaReading.{GaveFormula, IsFormulaFault}
use Rattle.lj_run.specs.Run.{has_verdict, IsStreamRun}

-- ---- the calls of one stream

-- the call that a line makes, where its text has no fault
abbrev pub said_call : Result Line LineFaultKind → Option Call
said_call (Ok line) = Some (call_of line)
said_call (Err kind) = None

-- These are the calls of these lines: in order, one of each line, and no others.
abbrev pub AreCallsOf : List Said → List Call → Type 0
AreCallsOf lines made = map (λ said. said_call said.says) lines ≡ map (λ call. Some call) made

-- The report is right of this stream, whose seat has the calls of its entries, in order: they are those of the lines that were
-- entered. Lines of a seat are refused in this way, and a book that is refuted has this property.
abbrev pub IsStreamBeside : {S : Type 0} → (S → SourceState) →
    (SeatValue → Line → Refusal → Type 0) → Type 0 → SeatValue → S → Report S → Type 0
IsStreamBeside seen refuses refuted seat stream report = IsStreamRun
    (λ lines. AreCallsOf lines seat.calls) (refuses seat) refuted (Unit {0}) seen stream report

-- Each report is right of its stream, by what its seat is of the final book: this seat for the first, the next for the next.
abbrev pub RunBeside : {S : Type 0} → (S → SourceState) → (SeatValue → Line → Refusal → Type 0)
    → Type 0 → NamedState → ℕ → List S → List (Report S) → Type 0
RunBeside seen refuses refuted final seat [] [] = Unit {0}
RunBeside seen refuses refuted final seat [] (report ∷ reports) = ⊥
RunBeside seen refuses refuted final seat (stream ∷ streams) [] = ⊥
RunBeside seen refuses refuted final seat (stream ∷ streams) (report ∷ reports) =
    IsStreamBeside seen refuses refuted (seat_of_book final seat) stream report
    × RunBeside seen refuses refuted final (seat + 1) streams reports

-- how many lines of a stream were accepted
abbrev pub accepted_count : {S : Type 0} → Report S → ℕ
accepted_count report = report.added + report.deleted + report.imported

-- ---- the run

-- What a run of these streams beside one another leaves of a new book of a formula, with a seat for each stream and this limit: a legal
-- history leads to the final state. It has an entry for each line that the reports count, and each report is right of its stream: a line
-- that it tells as refused is so, and that it stopped only where the steps refute the formula.
pub record IsBookOfRun {S : Type 0} (seen : S → SourceState) (formula : FormulaValue)
    (max_steps : ℕ) (streams : List S) (refuted : Bool) (reports : List (Report S))
    (final : NamedState) : Type 0 where
  pub opened : IsOpenedAs formula (length streams) max_steps final
  pub legal : IsNamedReached final
  pub counted : length final.history ≡ sum_by accepted_count reports
  pub runs : RunBeside seen (IsLineRefused formula (length streams) max_steps) (refuted ≡ true)
      final 0 streams reports

-- The outcome of a run of these streams beside one another on a formula. The steps are those of the history that the run leaves, and the
-- live clauses are their replay. It is verified, with this formula, exactly where the steps refute it.
pub record IsJointOutcome {S : Type 0} (seen : S → SourceState) (formula : FormulaValue)
    (max_steps : ℕ) (streams : List S) (outcome : Outcome S) : Type 0 where
  pub final : NamedState
  pub leaves : IsBookOfRun seen formula max_steps streams (refutes formula outcome.steps)
      outcome.reports.items final
  pub steps : outcome.steps ≡ steps_of final.history
  pub replayed : replay (formula_map formula) outcome.steps ≡ Some (live (beneath final))
  pub verified : outcome.verified
      ≡ (if refutes formula outcome.steps then Some formula else None)

-- ---- why there is no outcome

-- A run on a formula can't be confirmed: there is a final state of a book of the formula, and a stream with its report, right by the calls
-- of its seat's entries in that history, which says that the verdict stood, though that state has none. No assignment satisfies the
-- formula all the same.
pub record IsUnconfirmed {S : Type 0} (seen : S → SourceState) (formula : FormulaValue)
    (max_steps : ℕ) (streams : List S) : Type 0 where
  pub final : NamedState
  pub opened : IsOpenedAs formula (length streams) max_steps final
  pub legal : IsNamedReached final
  pub seat : ℕ
  pub stream : S
  pub stream_is : slice_get streams seat ≡ Some stream
  pub report : Report S
  pub runs : IsStreamBeside seen (IsLineRefused formula (length streams) max_steps)
      (IsUnsatisfiable formula) (seat_of_book final seat) stream report
  pub stopped : report.end ≡ Stopped
  pub denied : has_verdict final ≡ false
  pub unsatisfiable : IsUnsatisfiable formula

-- The run of the formula that the source gave can't be confirmed.
pub record IsUnconfirmedRun {S : Type 0} (before after : SourceState) (seen : S → SourceState)
    (max_steps : ℕ) (streams : List S) : Type 0 where
  pub formula : FormulaValue
  pub gave : GaveFormula before after formula
  pub unconfirmed : IsUnconfirmed seen formula max_steps streams

-- Why there is no outcome: all that the formula's source gave has this fault, a read of it failed, memory ran out, or the run can't be
-- confirmed.
abbrev pub IsJointFault : {S : Type 0} → SourceState → SourceState → (S → SourceState) → ℕ → List S
    → RunFault → Type 0
IsJointFault before after seen max_steps streams (Formula fault) = IsFormulaFault before after
    (Formula fault)
IsJointFault before after seen max_steps streams FormulaRead = IsFormulaFault before after
    FormulaRead
IsJointFault before after seen max_steps streams (NoMemory e) = IsFormulaFault before after
    (NoMemory e)
IsJointFault before after seen max_steps streams Unconfirmed = IsUnconfirmedRun before after seen
    max_steps streams
