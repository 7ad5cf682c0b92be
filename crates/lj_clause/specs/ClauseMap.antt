-- Finite maps from numbers to clauses, and the map of a formula.
use Rattle.std.specs.Prelude.{ℕ, ◌+◌, ◌≤◌, List, [], ◌∷◌, length, true, Bool, nat_le, ◌≡◌}
use Rattle.std.specs.List.{list_all}
use Rattle.std.specs.Ordering.{nat_cmp}
use Rattle.std.specs.FinMap as map
use Rattle.lj_clause.specs.declared.lit.TheConstants.{MAX_VARIABLE}
use Rattle.lj_clause.specs.declared.formula.TheConstants.{MAX_CLAUSES}
use Rattle.lj_clause.specs.Literal.{variable_of}
use Rattle.lj_clause.specs.LiteralSet.{LiteralSet, literals}

-- a finite map from numbers to clauses
abbrev pub ClauseMap : Type 0
ClauseMap = map.FinMap nat_cmp LiteralSet

-- clauses under numbers that rise from n
abbrev pub numbered_from : ℕ → List LiteralSet → List (ℕ × LiteralSet)
numbered_from n [] = []
numbered_from n (c ∷ cs) = (n, c) ∷ numbered_from (n + 1) cs

-- A number of variables, and the clauses in the order in which they stand.
pub record FormulaValue : Type 0 where
  pub variables : ℕ
  pub clauses : List LiteralSet

-- the formula of these clauses
abbrev pub formula_of : ℕ → List LiteralSet → FormulaValue
formula_of variables clauses = record { variables = variables; clauses = clauses }

-- the clauses of a formula under the numbers 1, 2 and so on
abbrev pub formula_map : FormulaValue → ClauseMap
formula_map f = map.from_entries (numbered_from 1 f.clauses)

-- whether no literal of the clause has a variable above this one
abbrev pub names_up_to : ℕ → LiteralSet → Bool
names_up_to variables c = list_all (λ l. nat_le (variable_of l) variables) (literals c)

-- within the limits of variables and clauses, and no clause names a variable above the number of variables
pub record IsFormula (f : FormulaValue) : Type 0 where
  pub few_variables : f.variables ≤ MAX_VARIABLE
  pub few_clauses : length f.clauses ≤ MAX_CLAUSES
  pub in_range : list_all (names_up_to f.variables) f.clauses ≡ true
