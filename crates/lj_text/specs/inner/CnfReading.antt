-- What the parts of the reader of formulas hold and give.
use Rattle.std.specs.Prelude.{◌≡◌, ℕ, ◌+◌, ◌<◌, ◌≤◌, Bool, true, false, nat_le, List, ◌++◌, length, map, Option, Some, None, Result, Ok, Err, ℤ, unsigned_abs}
use Rattle.lj_clause.specs.ClauseMap.{formula_of, names_up_to}
use Rattle.lj_clause.specs.Literal.{variable_of}
use Rattle.std.specs.List.{list_all}
use Rattle.lj_text.specs.declared.cnf.fault.CnfFault.{CnfFault}
use Rattle.lj_text.specs.declared.cnf.fault.CnfFaultKind.{CnfFaultKind}
use Rattle.lj_text.specs.declared.cnf.fault.CnfFaultKind.TheVariants.{BadNumber, VariableRange, NoMemory}
use Rattle.lj_text.specs.Cnf.{BodyToken, body_token_at}
use Rattle.lj_text.specs.CnfReading.{Begun, formula_after}
use Rattle.lj_clause.specs.declared.lit.TheConstants.{MAX_VARIABLE}
use Rattle.lj_clause.specs.declared.formula.TheConstants.{MAX_CLAUSES}

-- the fault is what the grammar tells, unless memory ran out
abbrev pub IsCnfTold : {Y : Type 0} → CnfFaultKind → ℕ → Result Y CnfFault → Type 0
IsCnfTold (NoMemory _) line read = Unit {0}
IsCnfTold kind line read = read ≡ Err (record { kind = kind; line = line })

-- whether a literal's variable is within a number
abbrev pub is_up_to : ℕ → ℤ → Bool
is_up_to variables l = nat_le (variable_of l) variables

-- All is within the limits, and a clause is to come where one is open.
pub record IsBegun (begun : Begun) : Type 0 where
  pub variables : begun.variables ≤ MAX_VARIABLE
  pub left : 0 < length begun.literals → 0 < begun.left
  pub count : length begun.clauses + begun.left ≤ MAX_CLAUSES
  pub clauses : list_all (names_up_to begun.variables) begun.clauses ≡ true
  pub literals : list_all (is_up_to begun.variables) begun.literals ≡ true

-- a number up to the number of variables, or why it is none
abbrev pub IsNumberUpTo : ℕ → Option ℤ → Result ℤ CnfFaultKind → Type 0
IsNumberUpTo variables number (Ok n) = (number ≡ Some n) × (unsigned_abs n ≤ variables)
IsNumberUpTo variables number (Err BadNumber) = number ≡ None
IsNumberUpTo variables number (Err VariableRange) = (n : ℤ) × (number ≡ Some n)
    × (variables < unsigned_abs n)
IsNumberUpTo variables number (Err kind) = ⊥

-- the tokens of a line, and what follows them
abbrev pub body_tokens_behind : ℕ → List (List ℕ) → List BodyToken → List BodyToken
body_tokens_behind line tokens rest = map (body_token_at line) tokens ++ rest

-- the clauses go on behind the tokens, or the formula ends, or there is a fault
abbrev pub Goes : ℕ → ℕ → List (List ℕ) → List BodyToken → Begun → Begun → Result Bool CnfFaultKind
    → Type 0
Goes last line tokens rest old new (Ok true) = formula_after old last
    (body_tokens_behind line tokens rest) ≡ Ok (formula_of new.variables new.clauses)
Goes last line tokens rest old new (Ok false) = formula_after old last
    (body_tokens_behind line tokens rest) ≡ formula_after new last rest
Goes last line tokens rest old new (Err kind) = IsCnfTold kind line
    (formula_after old last (body_tokens_behind line tokens rest))
