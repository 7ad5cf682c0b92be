-- The lines of the steps of a history, written from words and literals.
use Rattle.std.specs.Prelude.{◌≡◌, ℕ, ℤ, Bool, false, not, List, [], ◌∷◌, ◌++◌, filter, Option, Some, None}
use Rattle.std.specs.Ordering.{eq_by_cmp}
use Rattle.lj_clause.specs.Literal.{lit_cmp}
use Rattle.lj_text.specs.declared.step.Step.{Step}
use Rattle.lj_text.specs.Steps.{adds_empty}
use Rattle.lj_text.specs.StepText.{step_text, greatest_with}
use Rattle.lj_text.specs.TokenWriting.{TokenState, WasGiven}

-- the literals that an addition is kept by, as they are written: the pivot stands once
abbrev pub kept_as_written : List ℤ → List ℤ
kept_as_written [] = []
kept_as_written (pivot ∷ ls) = pivot ∷ filter (λ l. not (eq_by_cmp lit_cmp l pivot)) ls

-- the line of the step of an entry, if it has one
abbrev pub entry_text : ℕ → Option Step → List ℕ
entry_text greatest None = []
entry_text greatest (Some step) = step_text greatest step

abbrev pub entry_greatest : ℕ → Option Step → ℕ
entry_greatest greatest None = greatest
entry_greatest greatest (Some step) = greatest_with greatest step

-- whether the step of an entry is the last that is written
abbrev pub ends_proof : Option Step → Bool
ends_proof None = false
ends_proof (Some step) = adds_empty step

-- A writer of words was given a front of the whole text, and this is left of it.
pub record Remains (before : TokenState) (whole : List ℕ) (now : TokenState) (rest : List ℕ) : Type
    0 where
  pub front : List ℕ
  pub given : WasGiven before front now
  pub parts : front ++ rest ≡ whole
