-- The laws of trimming.
use Rattle.std.specs.Prelude.{◌≡◌, ℕ, ◌<◌, true, List, length}
use Rattle.std.specs.List.{AllByRecursion}
use Rattle.lj_clause.specs.ClauseMap.{FormulaValue}
use Rattle.lj_text.specs.declared.line.Addition.{Addition}
use Rattle.lj_text.specs.declared.step.Step.{Step}
use Rattle.lj_text.specs.Steps.{refutes}
use Rattle.lj_text.specs.Needed.{up_to_empty, additions, trimmed_steps}

-- the numbers of the additions are above this one
abbrev pub AreAbove : ℕ → List Step → Type 0
AreAbove n steps = AllByRecursion (λ (a : Addition). n < a.number) (additions steps)

-- steps that refute a formula refute it up to the first addition of the empty clause
abbrev pub FrontRefutes : Type 0
FrontRefutes = (f : FormulaValue) (steps : List Step) → refutes f steps ≡ true
    → refutes f (up_to_empty steps) ≡ true

-- the trimmed list of steps that refute a formula refutes it, where no addition takes the number of a clause of the formula
abbrev pub TrimmedRefutes : Type 0
TrimmedRefutes = (f : FormulaValue) (steps : List Step) → refutes f steps ≡ true
    → AreAbove (length f.clauses) steps → refutes f (trimmed_steps f steps) ≡ true
