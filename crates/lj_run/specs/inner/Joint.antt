-- What comes of a run of streams beside one another, on one shared book.
use Rattle.std.specs.Prelude.{◌≡◌, ℕ, Bool, true, List, [], ◌++◌, map, Some}
use Rattle.std.proofs.Common.{refl, sym, ap, ◌∙◌, append_assoc}
use Rattle.std.proofs.lemmas.List.{append-nil, map-append}
use Rattle.lj_text.specs.Lines.{Said}
use Rattle.lj_book.specs.declared.entry.Call.{Call}
use Rattle.lj_clause.specs.ClauseMap.{FormulaValue}
use Rattle.lj_clause.specs.Truth.{IsUnsatisfiable}
use Rattle.lj_text.specs.Streams.{SourceState}
use Rattle.lj_share.specs.Refusals.{IsLineRefused}
use Rattle.lj_share.specs.Seats.{SeatValue}
use Rattle.lj_run.specs.declared.outcome.End.{End}
use Rattle.lj_run.specs.declared.outcome.End.TheVariants.{Stopped}
use Rattle.lj_run.specs.declared.outcome.Report.{Report}
use Rattle.lj_run.specs.declared.outcome.RunFault.{RunFault}
use Rattle.lj_run.specs.declared.outcome.RunFault.TheVariants.{Formula, FormulaRead, NoMemory, Unconfirmed}
use Rattle.lj_run.specs.declared.stream.Tally.{Tally}
use Rattle.lj_run.specs.Joint.{said_call, IsStreamBeside, IsUnconfirmed}

-- ---- how a stream ends

-- the report of a stream with this tally and its source
abbrev pub report_of : {S : Type 0} → Tally → S → Report S
report_of tally source = record {
  added = tally.added;
  deleted = tally.deleted;
  imported =
      tally.imported;
  end = tally.end;
  refused = tally.refused;
  source = source;
}

-- ---- the calls of a seat

-- The seat has the calls of these lines behind those that it had.
abbrev pub AreCallsFurther : SeatValue → List Said → SeatValue → Type 0
AreCallsFurther before lines after = (map (λ call. Some call) after.calls
    ≡ map (λ call. Some call) before.calls ++ map (λ said. said_call said.says) lines)
    × (after.number ≡ before.number)

pub no_calls_further : (seat : SeatValue) → AreCallsFurther seat [] seat
no_calls_further seat = (sym (append-nil (map (λ (call : Call). Some call) seat.calls)), refl)

pub calls_further : (a b c : SeatValue) (front rest : List Said) → AreCallsFurther a front b
    → AreCallsFurther b rest c → AreCallsFurther a (front ++ rest) c
calls_further a b c front rest first then = (
  then.0 ∙ ap (λ cs. cs ++ map (λ (said : Said). said_call said.says) rest) first.0
      ∙ append_assoc (map (λ (call : Call). Some call) a.calls) (map (λ (said : Said). said_call said.says) front) (map (λ (said : Said). said_call said.says) rest)
      ∙ ap (λ cs. map (λ (call : Call). Some call) a.calls ++ cs) (sym (map-append (λ (said : Said). said_call said.says) front rest)),
  then.1 ∙ first.1,
)

-- ---- what the workers leave

-- A stream ran under its seat of an opening, which has the calls of its lines now, and this is its report. No assignment satisfies the
-- opening's formula where it says that it stopped.
abbrev pub HasRun : {S : Type 0} → (S → SourceState) → FormulaValue → ℕ → ℕ → SeatValue × S
    → SeatValue → Report S → Type 0
HasRun seen formula seats max_steps job seat report = IsStreamBeside seen
    (IsLineRefused formula seats max_steps) (IsUnsatisfiable formula) seat job.1 report
    × (seat.number ≡ job.0.number)

-- whether there is a verdict where this end says so
abbrev pub is_confirmed : Bool → End → Bool
is_confirmed verdict Stopped = verdict
is_confirmed verdict end = true

-- ---- why there is no outcome

-- why a run on a formula has no book: memory ran out, or it can't be confirmed
abbrev pub IsBookless : {S : Type 0} → (S → SourceState) → FormulaValue → ℕ → List S → RunFault
    → Type 0
IsBookless seen formula max_steps streams (Formula fault) = ⊥
IsBookless seen formula max_steps streams FormulaRead = ⊥
IsBookless seen formula max_steps streams (NoMemory e) = Unit {0}
IsBookless seen formula max_steps streams Unconfirmed = IsUnconfirmed seen formula max_steps streams
