-- What the reader of formulas keeps, and what is read from its state on.
use Rattle.std.specs.Prelude.{◌≡◌, ℕ, ◌+◌, Bool, false, List, length, Option, None, Some, Result, Ok, Err}
use Rattle.lj_clause.specs.ClauseMap.{FormulaValue, formula_of}
use Rattle.lj_text.specs.declared.cnf.fault.CnfFault.{CnfFault}
use Rattle.lj_text.specs.declared.cnf.state.State.{State}
use Rattle.lj_text.specs.declared.cnf.state.State.TheVariants.{Header, Clauses, Ended, Faulty}
use Rattle.lj_text.specs.Cnf.{BodyToken, body_tokens_from, last_line, formula_from}
use Rattle.lj_text.specs.CnfReading.{formula_after, keeps_first}
use Rattle.lj_text.specs.inner.CnfReading.{IsCnfTold}

-- the fault that is kept
abbrev pub kept_fault : State → Option CnfFault
kept_fault Header = None
kept_fault (Clauses begun) = None
kept_fault (Ended begun) = None
kept_fault (Faulty fault) = Some fault

-- a line with these tokens begins with a number where a clause is to come, so that what it says has to be kept
abbrev pub asks_memory : State → List (List ℕ) → Bool
asks_memory Header tokens = false
asks_memory (Clauses begun) tokens = keeps_first begun tokens
asks_memory (Ended begun) tokens = false
asks_memory (Faulty fault) tokens = false

-- what the grammar reads of the lines that follow, where n lines stand before them
abbrev pub formula_from_state : ℕ → ℕ → State → List (List ℕ) → Result FormulaValue CnfFault
formula_from_state max n Header lines = formula_from max n lines
formula_from_state max n (Clauses begun) lines = formula_after begun (last_line (n + length lines))
    (body_tokens_from n lines)
formula_from_state max n (Ended begun) lines = Ok (formula_of begun.variables begun.clauses)
formula_from_state max n (Faulty fault) lines = Err fault

-- from that state on this is read, unless memory ran out
abbrev pub Reads : ℕ → ℕ → List (List ℕ) → State → Result FormulaValue CnfFault → Type 0
Reads max n lines (Faulty fault) read = IsCnfTold fault.kind fault.line read
Reads max n lines Header read = read ≡ formula_from_state max n Header lines
Reads max n lines (Clauses begun) read = read ≡ formula_from_state max n (Clauses begun) lines
Reads max n lines (Ended begun) read = read ≡ formula_from_state max n (Ended begun) lines

-- the same among the tokens of the clauses
abbrev pub ReadsOn : ℕ → List BodyToken → State → Result FormulaValue CnfFault → Type 0
ReadsOn last rest (Faulty fault) read = IsCnfTold fault.kind fault.line read
ReadsOn last rest Header read = ⊥
ReadsOn last rest (Clauses begun) read = read ≡ formula_after begun last rest
ReadsOn last rest (Ended begun) read = read ≡ Ok (formula_of begun.variables begun.clauses)
