-- What comes of a run of streams one after the other.
use Rattle.std.specs.Prelude.{◌≡◌, ℕ, ◌+◌, true, false, List, [], ◌∷◌, ◌++◌, length, Option, Some, None, if◌then◌else◌}
use Rattle.lj_clause.specs.ClauseMap.{FormulaValue, formula_map}
use Rattle.lj_text.specs.Steps.{replay, refutes}
use Rattle.lj_text.specs.Streams.{SourceState}
use Rattle.lj_book.specs.State.{live, steps_of}
use Rattle.lj_book.specs.Named.{NamedState, named_opening, IsNamedReached, beneath}
use Rattle.lj_run.specs.declared.outcome.Outcome.{Outcome}
use Rattle.lj_run.specs.declared.outcome.Report.{Report}
use Rattle.lj_share.specs.Refusals.{IsRefusedLine}
use Rattle.lj_run.specs.Run.{IsStreamRun, state_after_lines, has_verdict}

-- the streams of a run by their seats: the closing one has the last
abbrev pub streams_by_seat : {S : Type 0} → List S → Option S → List S
streams_by_seat streams None = streams
streams_by_seat streams (Some closing) = streams ++ closing ∷ []

-- The report is right of this stream, whose lines led from one state to the other under this seat, each of them before the verdict; and
-- the book refused a line in the state that it was left in.
abbrev pub IsReport : {S : Type 0} → (S → SourceState) → ℕ → NamedState → NamedState → S
    → Report S → Type 0
IsReport seen seat s next stream report = IsStreamRun
    (λ lines. state_after_lines seat s lines ≡ Some next) (λ line e. IsRefusedLine seat line e next)
    (has_verdict next ≡ true) (has_verdict next ≡ false) seen stream report

-- These streams run one after the other, the first under this seat, the next under the next, and lead from this state to the final
-- one; the reports are theirs.
abbrev pub RunInTurn : {S : Type 0} → (S → SourceState) → ℕ → List S → NamedState → List (Report S)
    → NamedState → Type 0
RunInTurn seen seat [] s [] final = s ≡ final
RunInTurn seen seat [] s (report ∷ reports) final = ⊥
RunInTurn seen seat (stream ∷ streams) s [] final = ⊥
RunInTurn seen seat (stream ∷ streams) s (report ∷ reports) final = (next : NamedState)
    × IsReport seen seat s next stream report × RunInTurn seen (seat + 1) streams next reports final

-- The outcome of a run of these streams on a formula. They lead in turn from a new book, with a seat for each, to a final state. Its
-- history is legal, the steps are those of the history, and the live clauses are their replay. It is verified, with this formula,
-- exactly where the steps refute it.
pub record IsOutcome {S : Type 0} (seen : S → SourceState) (formula : FormulaValue) (max_steps : ℕ)
    (streams : List S) (outcome : Outcome S) : Type 0 where
  pub final : NamedState
  pub runs : RunInTurn seen 0 streams (named_opening formula (length streams) max_steps)
      outcome.reports.items final
  pub same : final.formula ≡ formula
  pub legal : IsNamedReached final
  pub steps : outcome.steps ≡ steps_of final.history
  pub replayed : replay (formula_map formula) outcome.steps ≡ Some (live (beneath final))
  pub verified : outcome.verified
      ≡ (if refutes formula outcome.steps then Some formula else None)
