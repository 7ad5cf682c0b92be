-- Truth under an assignment.
use Rattle.std.specs.Prelude.{◌≡◌, ℕ, suc, zero, Bool, true, false, not, ℤ, pos, negsuc, Some}
use Rattle.std.specs.List.{list_any}
use Rattle.std.specs.FinMap.{get}
use Rattle.lj_clause.specs.LiteralSet.{LiteralSet, literals}
use Rattle.lj_clause.specs.ClauseMap.{ClauseMap, FormulaValue, formula_map}

-- the set of the variables that are true, given as its test
abbrev pub Assignment : Type 0
Assignment = ℕ → Bool

-- v is true where the variable v is, and -v where it isn't. 0 is no literal, and never true
abbrev pub is_true : Assignment → ℤ → Bool
is_true a (pos zero) = false
is_true a (pos (suc n)) = a (suc n)
is_true a (negsuc n) = not (a (suc n))

-- whether the assignment makes some literal of the clause true
abbrev pub satisfies : Assignment → LiteralSet → Bool
satisfies a c = list_any (is_true a) (literals c)

-- the assignment satisfies each clause of the map
abbrev pub SatisfiesAll : Assignment → ClauseMap → Type 0
SatisfiesAll a p = (n : ℕ) (c : LiteralSet) → get p n ≡ Some c → satisfies a c ≡ true

-- some assignment satisfies each clause of the map
abbrev pub IsSatisfiable : ClauseMap → Type 0
IsSatisfiable p = (a : Assignment) × SatisfiesAll a p

-- no assignment satisfies each clause of the formula
abbrev pub IsUnsatisfiable : FormulaValue → Type 0
IsUnsatisfiable f = (a : Assignment) → SatisfiesAll a (formula_map f) → ⊥
