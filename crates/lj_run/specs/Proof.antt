-- What becomes of the proof of a run.
use Rattle.std.specs.Prelude.{◌≡◌, ℕ, ◌+◌, Bool, true, List, ◌++◌, length, Option, Some, None, if◌then◌else◌}
use Rattle.std.specs.List.{list_any}
use Rattle.lj_clause.specs.ClauseMap.{FormulaValue}
use Rattle.lj_text.specs.declared.step.Step.{Step}
use Rattle.lj_text.specs.Steps.{adds_empty}
use Rattle.lj_text.specs.Needed.{up_to_empty, trimmed_steps}
use Rattle.lj_text.specs.StepText.{proof_text}
use Rattle.lj_text.specs.Writing.{IsBeginning, IsCutShort}
use Rattle.lj_run.specs.declared.outcome.ProofEnd.{ProofEnd}
use Rattle.lj_run.specs.declared.outcome.ProofEnd.TheVariants.{NotAsked, Written, Failed}
use Rattle.lj_run.specs.declared.outcome.ProofFault.TheVariants.{Device, NoMemory}

-- A sink at one time: the bytes that it has taken, and how often it has failed.
pub record SinkState : Type 0 where
  pub taken : List ℕ
  pub failures : ℕ

-- a sink's state, by the members of its trait
abbrev pub sink_state : {W : Type 0} → (W → List ℕ) → (W → ℕ) → W → SinkState
sink_state taken failures sink = record { taken = taken sink; failures = failures sink }

-- The steps that are written of a run's: those up to and including the first addition of the empty clause, trimmed where that is
-- asked for; all of them, untrimmed, where none adds it.
abbrev pub written_steps : FormulaValue → Bool → List Step → List Step
written_steps f trims steps = if list_any adds_empty steps then
    (if trims then trimmed_steps f steps else up_to_empty steps) else steps

-- the text of the proof of a run's steps
abbrev pub written_text : FormulaValue → Bool → List Step → List ℕ
written_text f trims steps = proof_text (length f.clauses) (written_steps f trims steps)

-- What became of a text is right of a sink that was first in one state and then in the other. Where it is written, the sink took exactly
-- the text. Where the sink failed, it failed once, and took a beginning of the text and not all.
abbrev pub IsTextEnd : List ℕ → SinkState → SinkState → ProofEnd → Type 0
IsTextEnd text before after NotAsked = ⊥
IsTextEnd text before after Written = (after.taken ≡ before.taken ++ text)
    × (after.failures ≡ before.failures)
IsTextEnd text before after (Failed Device) = IsCutShort after.taken (before.taken ++ text)
    × IsBeginning before.taken after.taken × (after.failures ≡ before.failures + 1)
IsTextEnd text before after (Failed (NoMemory _)) = ⊥

-- The same of the proof of a run's steps. Memory is refused only to the trimmer, where there is something to trim, and then the sink
-- stays.
abbrev pub IsProofEnd : FormulaValue → Bool → List Step → SinkState → SinkState → ProofEnd → Type 0
IsProofEnd f trims steps before after (Failed (NoMemory _)) = (after ≡ before) × (trims ≡ true)
    × (list_any adds_empty steps ≡ true)
IsProofEnd f trims steps before after end = IsTextEnd (written_text f trims steps) before after end

-- the same of a sink that may have been handed in: the proof is not asked for exactly where none was
abbrev pub IsProof : {W : Type 0} → (W → SinkState) → FormulaValue → Bool → List Step → Option W
    → Option W → ProofEnd → Type 0
IsProof seen f trims steps None None end = end ≡ NotAsked
IsProof seen f trims steps None (Some after) end = ⊥
IsProof seen f trims steps (Some before) None end = ⊥
IsProof seen f trims steps (Some before) (Some after) end = IsProofEnd f trims steps (seen before)
    (seen after) end
