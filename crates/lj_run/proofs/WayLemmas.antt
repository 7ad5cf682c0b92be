-- What a run answers, by the way in which its streams are run.
use Rattle.std.proofs.Common.{◌≡◌, ◌∙◌, ℕ, Bool, true, false, List, Option, Some, None, refl, sym, ap}
use Rattle.std.specs.Prelude.{IfSome, is_some, if◌then◌else◌}
use Rattle.lj_clause.specs.ClauseMap.{FormulaValue}
use Rattle.lj_clause.specs.Truth.{IsUnsatisfiable}
use Rattle.lj_text.proofs.StepLaws.{unsatisfiable-refutes}
use Rattle.lj_text.specs.Steps.{refutes}
use Rattle.lj_text.specs.Streams.{SourceState}
use Rattle.lj_text.specs.declared.cnf.fault.CnfFault.{CnfFault}
use Rattle.lj_book.specs.State.{steps_of}
use Rattle.lj_book.specs.Named.{NamedState, IsNamedReached}
use Rattle.lj_run.specs.declared.outcome.Outcome.{Outcome}
use Rattle.lj_run.specs.declared.outcome.RunFault.TheVariants.{Formula}
use Rattle.lj_run.specs.declared.outcome.Way.{Way}
use Rattle.lj_run.specs.declared.outcome.Way.TheVariants.{OnThreads, InTurn}
use Rattle.lj_run.specs.FormulaReading.{GaveFault, GaveFormula}
use Rattle.lj_run.specs.Proof.{SinkState, IsProof}
use Rattle.lj_run.specs.Ways.{IsAnswerBy, IsFaultBy, IsOutcomeBy}
use Rattle.lj_run.proofs.ProofLemmas.{written_refutes}

-- what is told of the verdict, as one value
pub verified_is : (v : Option FormulaValue) (f g : FormulaValue) (b : Bool) → g ≡ f → is_some v ≡ b → IfSome v (λ h. h ≡ g) → v ≡ (if b then Some f else None)
verified_is None f g b same some is = ap (λ c. if c then Some f else None) some
verified_is (Some h) f g b same some is = ap Some (is ∙ same) ∙ ap (λ c. if c then Some f else None) some

refuted_by : (f : FormulaValue) (v : Option FormulaValue) (b : Bool) → v ≡ (if b then Some f else None) → v ≡ Some f → b ≡ true
refuted_by f v true e is = refl
refuted_by f v false e is = let bad : None ≡ Some f = sym e ∙ is in cc

-- an outcome is verified exactly where the steps refute the formula
pub verified_by : {S : Type 0} (way : Way) (seen : S → SourceState) (f : FormulaValue) (max : ℕ) (streams : List S) (outcome : Outcome S) → IsOutcomeBy way seen f max streams outcome
    → outcome.verified ≡ (if refutes f outcome.steps then Some f else None)
verified_by OnThreads seen f max streams outcome is = is.verified
verified_by InTurn seen f max streams outcome is = is.verified

-- what a run answers whose outcome has the steps of this final state
pub answer_by : {S W : Type 0} (way : Way) (before after : SourceState) (seen : S → SourceState) (sink : W → SinkState) (f : FormulaValue) (max : ℕ) (trims : Bool) (streams : List S) (old new : Option W) (outcome : Outcome S)
    (final : NamedState) → GaveFormula before after f → IsOutcomeBy way seen f max streams outcome → IsNamedReached final → final.formula ≡ f → outcome.steps ≡ steps_of final.history
    → IsProof sink f trims outcome.steps old new outcome.proof → IsAnswerBy way before after seen sink max trims streams old new outcome
answer_by way before after seen sink f max trims streams old new outcome final gave is reached same steps proof = record {
  formula = f;
  gave = gave;
  comes = is;
  proof = proof;
  refuted = λ e. written_refutes final f trims outcome.steps reached same steps (refuted_by f outcome.verified (refutes f outcome.steps) (verified_by way seen f max streams outcome is) e);
}

-- no assignment satisfies the formula of an outcome that is verified with it
pub outcome_refutes : {S : Type 0} (way : Way) (seen : S → SourceState) (f : FormulaValue) (max : ℕ) (streams : List S) (outcome : Outcome S) → IsOutcomeBy way seen f max streams outcome
    → is_some outcome.verified ≡ true → IsUnsatisfiable f
outcome_refutes way seen f max streams outcome is verified =
    unsatisfiable-refutes f outcome.steps (of_test (refutes f outcome.steps) (ap is_some (sym (verified_by way seen f max streams outcome is)) ∙ verified))
  where
    of_test : (b : Bool) → is_some (if b then Some f else None) ≡ true → b ≡ true
    of_test true e = refl
    of_test false e = e

-- why there is no formula, whichever the way
pub formula_fault : {S : Type 0} (way : Way) (before after : SourceState) (seen : S → SourceState) (max : ℕ) (streams : List S) (fault : CnfFault) → IsFaultBy way before after seen max streams (Formula fault)
    → GaveFault before after fault
formula_fault OnThreads before after seen max streams fault is = is
formula_fault InTurn before after seen max streams fault is = is
