-- What the line grammar reads of the text of steps.
use Rattle.std.specs.Prelude.{◌≡◌, ℕ, ◌+◌, ◌<◌, ◌≤◌, true, List, [], ◌∷◌, ℤ, Ok}
use Rattle.std.specs.List.{AllByRecursion}
use Rattle.lj_clause.specs.Literal.{variable_of}
use Rattle.lj_clause.specs.LiteralSet.{holds}
use Rattle.lj_clause.specs.Lemma.{IsLemma}
use Rattle.lj_clause.specs.Rat.{HintGroup}
use Rattle.lj_text.specs.declared.line.Addition.{Addition}
use Rattle.lj_text.specs.declared.line.Line.{Line}
use Rattle.lj_text.specs.declared.line.Line.TheVariants as says
use Rattle.lj_text.specs.declared.step.Step.{Step}
use Rattle.lj_text.specs.declared.step.Step.TheVariants.{Add, Delete}
use Rattle.lj_text.specs.Bytes.{line_number}
use Rattle.lj_text.specs.Lines.{Said, all_said, greatest}
use Rattle.lj_text.specs.StepText.{proof_text}
use Rattle.lj_clause.specs.declared.lit.TheConstants.{MAX_VARIABLE}

-- a number under which a clause may stand in a line
abbrev pub IsClauseNumber : ℕ → Type 0
IsClauseNumber n = (0 < n) × (n ≤ greatest)

-- a literal of a variable up to the greatest
abbrev pub IsLiteralUpTo : ℕ → ℤ → Type 0
IsLiteralUpTo max l = (0 < variable_of l) × (variable_of l ≤ max)

-- the numbers of a group are within the limits of a line
abbrev pub IsGroupWithin : HintGroup → Type 0
IsGroupWithin g = IsClauseNumber g.candidate × AllByRecursion IsClauseNumber g.hints

-- An addition is within the limits of a line: its numbers and its literals are, and its pivot is one of these.
pub record IsAdditionWithin (max : ℕ) (a : Addition) : Type 0 where
  pub number : IsClauseNumber a.number
  pub pivot : IsLemma a.lemma
  pub variables : (l : ℤ) → holds a.lemma.clause l ≡ true → IsLiteralUpTo max l
  pub hints : AllByRecursion IsClauseNumber a.hints
  pub groups : AllByRecursion IsGroupWithin a.groups

-- a step is within the limits of a line
abbrev pub IsStepWithin : ℕ → Step → Type 0
IsStepWithin max (Add a) = IsAdditionWithin max a
IsStepWithin max (Delete numbers) = AllByRecursion IsClauseNumber numbers

-- the line that says a step
abbrev pub line_of_step : Step → Line
line_of_step (Add a) = says.Add a
line_of_step (Delete numbers) = says.Delete numbers

-- lines that say steps, one each, where n lines stand before them
abbrev pub said_by_steps : ℕ → List Step → List Said
said_by_steps n [] = []
said_by_steps n (step ∷ steps) = record { line = line_number n; says = Ok (line_of_step step) } ∷
    said_by_steps (n + 1) steps

-- the text of steps within the limits is read as these steps, each in its line
abbrev pub WrittenIsReadAgain : Type 0
WrittenIsReadAgain = (max clauses : ℕ) (steps : List Step) → max ≤ MAX_VARIABLE → clauses ≤ greatest
    → AllByRecursion (IsStepWithin max) steps
    → all_said max (proof_text clauses steps) ≡ said_by_steps 0 steps
