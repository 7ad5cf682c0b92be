-- What a check answers and prints.
use Rattle.std.specs.Prelude.{◌≡◌, ◌≢◌, ◌⊎◌, ◌<◌, ℕ, Bool, List, ◌++◌, length, take, Option, Some, None}
use Rattle.lj_clause.specs.ClauseMap.{FormulaValue}
use Rattle.lj_text.specs.Streams.{SourceState}
use Rattle.lj_clause.specs.Truth.{IsUnsatisfiable}
use Rattle.lj_run.specs.declared.checking.CheckFault.{CheckFault}
use Rattle.lj_run.specs.declared.checking.CheckFault.TheVariants.{Run, CannotWrite}
use Rattle.lj_run.specs.declared.checking.Verdict.{Verdict}
use Rattle.lj_run.specs.declared.checking.Verdict.TheVariants.{Verified, NotVerified}
use Rattle.lj_run.specs.declared.outcome.Outcome.{Outcome}
use Rattle.lj_run.specs.declared.outcome.Way.{Way}
use Rattle.lj_run.specs.FormulaReading.{GaveFormula}
use Rattle.lj_run.specs.Ways.{IsOutcomeBy, IsAnswerBy, IsFaultBy}
use Rattle.lj_run.specs.Proof.{SinkState}
use Rattle.lj_run.specs.declared.checking.Checked.{Checked}
use Rattle.lj_run.specs.declared.outcome.RunFault.TheVariants.{Formula, FormulaRead, NoMemory, Unconfirmed}
use Rattle.lj_run.specs.OutcomeText.{outcome_text}

-- the verdict of an outcome with this formula of its verification, or without one
abbrev pub verdict_of : Option FormulaValue → Verdict
verdict_of (Some formula) = Verified
verdict_of None = NotVerified

-- What is printed of a check with this verdict, of streams that are run in this way, over a formula's source that was first in one
-- state and then in the other: it is the text of an outcome of the run of the streams on the formula that the source's bytes spell.
-- Where the verdict is that it is verified, no assignment satisfies that formula.
pub record IsPrinted {S : Type 0} (way : Way) (before after : SourceState) (seen : S → SourceState)
    (max_steps : ℕ) (streams : List S) (verdict : Verdict) (text : List ℕ) : Type 0 where
  pub formula : FormulaValue
  pub gave : GaveFormula before after formula
  pub outcome : Outcome S
  pub comes : IsOutcomeBy way seen formula max_steps streams outcome
  pub answers : verdict ≡ verdict_of outcome.verified
  pub unsatisfiable : verdict ≡ Verified → IsUnsatisfiable formula
  pub prints : text ≡ outcome_text outcome

-- What a check answers where this text is printed, over a sink of the proof that may have been handed in: the run of the streams on the
-- formula that the source's bytes spell has an outcome whose text and whose verdict these are, and the proof is what the run made of it.
-- Where the verdict is that it is verified, no assignment satisfies that formula.
pub record IsChecked {S W : Type 0} (way : Way) (before after : SourceState)
    (seen : S → SourceState) (sink : W → SinkState) (max_steps : ℕ) (trims : Bool)
    (streams : List S) (proof_old proof_new : Option W) (checked : Checked)
    (text : List ℕ) : Type 0 where
  pub outcome : Outcome S
  pub runs : IsAnswerBy way before after seen sink max_steps trims streams proof_old proof_new
      outcome
  pub answers : checked.verdict ≡ verdict_of outcome.verified
  pub proof : checked.proof ≡ outcome.proof
  pub unsatisfiable : checked.verdict ≡ Verified → IsUnsatisfiable runs.formula
  pub prints : text ≡ outcome_text outcome

-- the run has an outcome, and the proof is what the run made of it
abbrev pub HasOutcome : {S W : Type 0} → Way → SourceState → SourceState → (S → SourceState)
    → (W → SinkState) → ℕ → Bool → List S → Option W → Option W → Type 0
HasOutcome {S} way before after seen sink max_steps trims streams proof_old proof_new =
    (outcome : Outcome S)
    × IsAnswerBy way before after seen sink max_steps trims streams proof_old proof_new outcome

-- the formula is at fault, a read of it failed, or the run can't be confirmed: no proof is written then
abbrev pub IsEarlyFault : CheckFault → Type 0
IsEarlyFault (Run (Formula fault)) = Unit {0}
IsEarlyFault (Run FormulaRead) = Unit {0}
IsEarlyFault (Run (NoMemory _)) = ⊥
IsEarlyFault (Run Unconfirmed) = Unit {0}
IsEarlyFault CannotWrite = ⊥

-- What was taken is a beginning of what is printed of a check, and not all of it.
pub record IsCutText {S : Type 0} (way : Way) (before after : SourceState) (seen : S → SourceState)
    (max_steps : ℕ) (streams : List S) (old new : List ℕ) : Type 0 where
  pub verdict : Verdict
  pub text : List ℕ
  pub printed : IsPrinted way before after seen max_steps streams verdict text
  pub count : ℕ
  pub not_all : count < length text
  pub took : new ≡ old ++ take count text

-- Why a check has no answer: the run has no outcome, or memory ran out, and nothing was taken; or the output failed, and took a
-- beginning.
abbrev pub IsCheckFault : {S : Type 0} → Way → SourceState → SourceState → (S → SourceState) → ℕ
    → List S → List ℕ → List ℕ → CheckFault → Type 0
IsCheckFault way before after seen max_steps streams old new (Run fault) = IsFaultBy way before
    after seen max_steps streams fault × (new ≡ old)
IsCheckFault way before after seen max_steps streams old new CannotWrite = IsCutText way before
    after seen max_steps streams old new

-- ---- what a check leaves

-- What a check leaves where it answers this: its output took just the text that is printed, and hasn't failed.
pub record LeavesAnswer {S W O : Type 0} (way : Way) (before after : SourceState)
    (seen : S → SourceState) (sink : W → SinkState) (max_steps : ℕ) (trims : Bool)
    (streams : List S) (proof_old proof_new : Option W) (output : O → SinkState)
    (out_old out_new : O) (checked : Checked) : Type 0 where
  pub text : List ℕ
  pub took : (output out_new).taken ≡ (output out_old).taken ++ text
  pub printed : IsChecked way before after seen sink max_steps trims streams proof_old proof_new
      checked text
  pub unfailed : (output out_new).failures ≡ 0

-- The sink of the proof is as it was, or the run has an outcome, and the proof is what the run made of it: nothing else comes to the sink,
-- whatever is told.
abbrev pub LeavesProof : {S W : Type 0} → Way → SourceState → SourceState → (S → SourceState)
    → (W → SinkState) → ℕ → Bool → List S → Option W → Option W → Type 0
LeavesProof way before after seen sink max_steps trims streams proof_old proof_new =
    (proof_new ≡ proof_old)
    ⊎ HasOutcome way before after seen sink max_steps trims streams proof_old proof_new

-- What a check leaves where it has no answer for this reason. Where the output failed, it failed once, and the proof is what the run made
-- of it; else the output is as it was. After an early fault the sink of the proof is as it was, too; after want of memory it is as it was,
-- or as the run leaves it that has an outcome.
pub record LeavesFault {S W O : Type 0} (way : Way) (before after : SourceState)
    (seen : S → SourceState) (sink : W → SinkState) (max_steps : ℕ) (trims : Bool)
    (streams : List S) (proof_old proof_new : Option W) (output : O → SinkState)
    (out_old out_new : O) (fault : CheckFault) : Type 0 where
  pub why : IsCheckFault way before after seen max_steps streams (output out_old).taken
      (output out_new).taken fault
  pub untouched : fault ≢ CannotWrite → out_new ≡ out_old
  pub failed : fault ≡ CannotWrite → (output out_new).failures ≡ 1
  pub written : fault ≡ CannotWrite → HasOutcome way before after seen sink max_steps trims streams
      proof_old proof_new
  pub early : IsEarlyFault fault → proof_new ≡ proof_old
  pub proof : LeavesProof way before after seen sink max_steps trims streams proof_old proof_new
