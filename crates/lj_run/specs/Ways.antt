-- What comes of a run, by the way in which its streams are run.
use Rattle.std.specs.Prelude.{◌≡◌, ℕ, Bool, true, List, Option, Some}
use Rattle.lj_clause.specs.ClauseMap.{FormulaValue}
use Rattle.lj_text.specs.Steps.{refutes}
use Rattle.lj_text.specs.Streams.{SourceState}
use Rattle.lj_run.specs.declared.outcome.Outcome.{Outcome}
use Rattle.lj_run.specs.declared.outcome.RunFault.{RunFault}
use Rattle.lj_run.specs.declared.outcome.Way.{Way}
use Rattle.lj_run.specs.declared.outcome.Way.TheVariants.{OnThreads, InTurn}
use Rattle.lj_run.specs.FormulaReading.{GaveFormula, IsFormulaFault}
use Rattle.lj_run.specs.InTurn.{IsOutcome}
use Rattle.lj_run.specs.Joint.{IsJointOutcome, IsJointFault}
use Rattle.lj_run.specs.Proof.{SinkState, IsProof, written_steps}

-- the outcome of a run of these streams on a formula: beside one another, or one after the other
abbrev pub IsOutcomeBy : {S : Type 0} → Way → (S → SourceState) → FormulaValue → ℕ → List S
    → Outcome S → Type 0
IsOutcomeBy OnThreads seen formula max_steps streams outcome = IsJointOutcome seen formula max_steps
    streams outcome
IsOutcomeBy InTurn seen formula max_steps streams outcome = IsOutcome seen formula max_steps streams
    outcome

-- What a run answers, over a formula's source that was first in one state and then in the other, and a sink of the proof that may have
-- been handed in and was so before and after: an outcome of the formula that the source gave, and what became of the proof. Where the
-- outcome is verified, the steps that are written refute the formula.
pub record IsAnswerBy {S W : Type 0} (way : Way) (before after : SourceState)
    (seen : S → SourceState) (sink : W → SinkState) (max_steps : ℕ) (trims : Bool)
    (streams : List S) (out_old out_new : Option W) (outcome : Outcome S) : Type 0 where
  pub formula : FormulaValue
  pub gave : GaveFormula before after formula
  pub comes : IsOutcomeBy way seen formula max_steps streams outcome
  pub proof : IsProof sink formula trims outcome.steps out_old out_new outcome.proof
  pub refuted : outcome.verified ≡ Some formula
      → refutes formula (written_steps formula trims outcome.steps) ≡ true

-- why a run has no outcome: one in turn ends so only while the formula is read, or for want of memory
abbrev pub IsFaultBy : {S : Type 0} → Way → SourceState → SourceState → (S → SourceState) → ℕ
    → List S → RunFault → Type 0
IsFaultBy OnThreads before after seen max_steps streams fault = IsJointFault before after seen
    max_steps streams fault
IsFaultBy InTurn before after seen max_steps streams fault = IsFormulaFault before after fault
