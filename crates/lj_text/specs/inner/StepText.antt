-- The greatest number of a list of steps.
use Rattle.std.specs.Prelude.{ℕ, List, [], ◌∷◌}
use Rattle.lj_text.specs.declared.step.Step.{Step}
use Rattle.lj_text.specs.StepText.{greatest_with}

-- the greatest of a number and of those of the additions
abbrev pub greatest_number : ℕ → List Step → ℕ
greatest_number n [] = n
greatest_number n (step ∷ steps) = greatest_number (greatest_with n step) steps
