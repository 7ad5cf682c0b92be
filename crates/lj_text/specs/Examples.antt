-- Worked examples of refutations and of trimmed lists of steps. Each outcome is computed by hand.
use Rattle.std.specs.Prelude.{◌≡◌, ℕ, true, false, List, [], ◌∷◌, ℤ, pos, negsuc}
use Rattle.lj_clause.specs.LiteralSet.{from_literals}
use Rattle.lj_clause.specs.Lemma.{lemma_of}
use Rattle.lj_clause.specs.ClauseMap.{FormulaValue, formula_of, formula_map}
use Rattle.lj_clause.specs.Rat.{HintGroup}
use Rattle.lj_clause.specs.Examples.{group}
use Rattle.lj_text.specs.declared.step.Step.{Step}
use Rattle.lj_text.specs.declared.step.Step.TheVariants.{Add, Delete}
use Rattle.lj_text.specs.Steps.{is_accepted, refutes}
use Rattle.lj_text.specs.Needed.{trimmed_steps}

-- an addition of the literals as they are written
abbrev pub add : ℕ → List ℤ → List ℕ → List HintGroup → Step
add number lemma hints groups = Add
    (record { number = number; lemma = lemma_of lemma; hints = hints; groups = groups })

-- the four binary clauses over variables 1 and 2, of so many variables
abbrev pub four_binary_formula : ℕ → FormulaValue
four_binary_formula variables = formula_of variables
    (from_literals (pos 1 ∷ pos 2 ∷ []) ∷ from_literals (negsuc 0 ∷ pos 2 ∷ []) ∷ from_literals
    (pos 1 ∷ negsuc 1 ∷ []) ∷ from_literals (negsuc 0 ∷ negsuc 1 ∷ []) ∷ [])

-- 2 follows from clauses 1 and 2, and the empty clause from it and clauses 3 and 4
abbrev pub two_steps : List Step
two_steps = add 5 (pos 2 ∷ []) (1 ∷ 2 ∷ []) [] ∷ add 6 [] (5 ∷ 3 ∷ 4 ∷ []) [] ∷ []

-- -1 2, 2 3 and -1 -3
abbrev pub three_clauses_formula : FormulaValue
three_clauses_formula = formula_of 3 (from_literals (negsuc 0 ∷ pos 2 ∷ []) ∷ from_literals
    (pos 2 ∷ pos 3 ∷ []) ∷ from_literals (negsuc 0 ∷ negsuc 2 ∷ []) ∷ [])

-- Steps that are accepted, and lists of steps that refute.
pub record StepExamples : Type 0 where
  pub refuted : refutes (four_binary_formula 2) two_steps ≡ true
  -- without the empty clause nothing is refuted
  pub not_yet : refutes (four_binary_formula 2) (add 5 (pos 2 ∷ []) (1 ∷ 2 ∷ []) [] ∷ []) ≡ false
  -- two groups of one candidate
  pub group_repeated : is_accepted (formula_map three_clauses_formula)
      (add 4 (pos 1 ∷ pos 3 ∷ []) [] (group 1 (2 ∷ []) ∷ group 1 (2 ∷ []) ∷ [])) ≡ false
  -- the number is taken
  pub number_taken : is_accepted (formula_map (four_binary_formula 2))
      (add 4 (pos 2 ∷ []) (1 ∷ 2 ∷ []) []) ≡ false
  -- there is no clause 9, behind the closing hint too
  pub unknown_number : is_accepted (formula_map (four_binary_formula 2))
      (add 5 (pos 2 ∷ []) (1 ∷ 2 ∷ 9 ∷ []) []) ≡ false
  -- a deletion of a number that isn't there
  pub unknown_deletion : is_accepted (formula_map (four_binary_formula 2)) (Delete (1 ∷ 9 ∷ []))
      ≡ false

-- A lemma that nothing needs, a group of it, and a deletion of it and of a clause of the formula.
pub record TrimExamples : Type 0 where
  pub unneeded_lemma : trimmed_steps (four_binary_formula 2) (add 5 (pos 2 ∷ []) (1 ∷ 2 ∷ []) [] ∷
      add 6 (pos 1 ∷ []) (1 ∷ 3 ∷ []) [] ∷ add 7 [] (5 ∷ 3 ∷ 4 ∷ []) [] ∷ [])
      ≡ add 5 (pos 2 ∷ []) (1 ∷ 2 ∷ []) [] ∷ add 7 [] (5 ∷ 3 ∷ 4 ∷ []) [] ∷ []
  pub group_and_deletion : trimmed_steps (four_binary_formula 3)
      (add 5 (negsuc 2 ∷ pos 1 ∷ pos 2 ∷ []) (1 ∷ []) [] ∷ add 6 (pos 3 ∷ pos 1 ∷ []) []
      (group 5 (1 ∷ []) ∷ []) ∷ add 7 (pos 1 ∷ []) (6 ∷ 1 ∷ 3 ∷ []) [] ∷ Delete (3 ∷ 5 ∷ []) ∷ add 8
      [] (7 ∷ 2 ∷ 4 ∷ []) [] ∷ [])
      ≡ add 6 (pos 3 ∷ pos 1 ∷ []) [] [] ∷ add 7 (pos 1 ∷ []) (6 ∷ 1 ∷ 3 ∷ []) []
      ∷ Delete (3 ∷ []) ∷ add 8 [] (7 ∷ 2 ∷ 4 ∷ []) [] ∷ []
