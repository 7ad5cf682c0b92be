-- The grammar of formulas, over the lines of a text. Source: the DIMACS CNF format; the faults are own.
use Rattle.std.specs.Prelude.{◌≡◌, ℕ, zero, suc, ◌+◌, ◌-◌, ◌==◌, nat_le, List, [], ◌∷◌, ◌++◌, length, map, codes, bytes_eq, Option, None, Some, Result, Ok, Err, ℤ, unsigned_abs, if◌then◌else◌}
use Rattle.std.specs.Str.{byte}
use Rattle.lj_clause.specs.LiteralSet.{LiteralSet, from_literals}
use Rattle.lj_clause.specs.ClauseMap.{FormulaValue, formula_of}
use Rattle.lj_text.specs.declared.cnf.fault.CnfFault.{CnfFault}
use Rattle.lj_text.specs.declared.cnf.fault.CnfFaultKind.{CnfFaultKind}
use Rattle.lj_text.specs.declared.cnf.fault.CnfFaultKind.TheVariants.{NoHeader, BadHeader, BadNumber, VariableRange, ClauseCount, Truncated}
use Rattle.lj_text.specs.Bytes.{number_of, digits_value, tokens_of, lines_of, line_number, is_silent, begins}
use Rattle.lj_text.specs.Lines.{is_letter, with_read, then_read}
use Rattle.lj_clause.specs.declared.formula.TheConstants.{MAX_CLAUSES}

-- a fault of this kind in this line
abbrev pub fault_in : {A : Type 0} → ℕ → CnfFaultKind → Result A CnfFault
fault_in line kind = Err (record { kind = kind; line = line })

-- The header line

-- the numbers of variables and of clauses, where they are numbers within the limits
abbrev pub sizes_of : ℕ → ℕ → Option ℕ → Option ℕ → Result (ℕ × ℕ) CnfFault
sizes_of max line None clauses = fault_in line BadHeader
sizes_of max line (Some v) None = fault_in line BadHeader
sizes_of max line (Some v) (Some m) = if nat_le m MAX_CLAUSES then
    (if nat_le v max then Ok (v, m) else fault_in line VariableRange) else fault_in line BadHeader

-- behind `p` stand `cnf` and the numbers of variables and of clauses
abbrev pub header_after : ℕ → ℕ → List (List ℕ) → Result (ℕ × ℕ) CnfFault
header_after max line [] = fault_in line BadHeader
header_after max line (token_number ∷ []) = fault_in line BadHeader
header_after max line (token_number ∷ v ∷ []) = fault_in line BadHeader
header_after max line (token_number ∷ v ∷ m ∷ []) = if bytes_eq token_number (codes "cnf") then
    sizes_of max line (digits_value v) (digits_value m) else fault_in line BadHeader
header_after max line (token_number ∷ v ∷ m ∷ more ∷ tokens) = fault_in line BadHeader

-- the numbers of variables and of clauses of a line that is to be the header
abbrev pub header_of : ℕ → ℕ → List (List ℕ) → Result (ℕ × ℕ) CnfFault
header_of max line [] = fault_in line NoHeader
header_of max line (token ∷ tokens) = if is_letter (byte "p") token then
    header_after max line tokens else fault_in line NoHeader

-- The clauses

-- What a token of the clauses says, and in which line: the end of the formula where a clause would begin, no number, or a number.
pub data BodyToken : Type 0 where
  Percent : ℕ → BodyToken
  NoNumber : ℕ → BodyToken
  Number : ℕ → ℤ → BodyToken

-- what a token says in a line, by the number that it is
abbrev pub number_at : ℕ → Option ℤ → BodyToken
number_at line None = NoNumber line
number_at line (Some n) = Number line n

-- what a token of the clauses says in a line
abbrev pub body_token_at : ℕ → List ℕ → BodyToken
body_token_at line token = if begins (byte "%") token then Percent line
    else number_at line (number_of token)

-- the tokens of a line that isn't silent
abbrev pub body_tokens_at : ℕ → List (List ℕ) → List BodyToken
body_tokens_at line tokens = if is_silent tokens then [] else map (body_token_at line) tokens

-- the tokens of lines, where n lines stand before them
abbrev pub body_tokens_from : ℕ → List (List ℕ) → List BodyToken
body_tokens_from n [] = []
body_tokens_from n (line ∷ lines) = body_tokens_at (line_number n) (tokens_of line)
    ++ body_tokens_from (n + 1) lines

-- literals up to a 0, and what follows it; the input ends in line `last`
abbrev pub literals_up_to : ℕ → ℕ → List BodyToken → Result (List ℤ × List BodyToken) CnfFault
literals_up_to variables last [] = fault_in last Truncated
literals_up_to variables last (Percent line ∷ rest) = fault_in line BadNumber
literals_up_to variables last (NoNumber line ∷ rest) = fault_in line BadNumber
literals_up_to variables last (Number line n ∷ rest) =
    if nat_le (unsigned_abs n) variables then (if unsigned_abs n == 0 then Ok ([], rest)
    else with_read (λ r. (n ∷ r.0, r.1)) (literals_up_to variables last rest))
    else fault_in line VariableRange

-- so many clauses, and the end of the formula
abbrev pub clauses_of : ℕ → ℕ → ℕ → List BodyToken → Result (List LiteralSet) CnfFault
clauses_of variables last zero [] = Ok []
clauses_of variables last zero (Percent line ∷ rest) = Ok []
clauses_of variables last zero (NoNumber line ∷ rest) = fault_in line BadNumber
clauses_of variables last zero (Number line n ∷ rest) = if nat_le (unsigned_abs n) variables then
    fault_in line ClauseCount else fault_in line VariableRange
clauses_of variables last (suc m) [] = fault_in last ClauseCount
clauses_of variables last (suc m) (Percent line ∷ rest) = fault_in line ClauseCount
clauses_of variables last (suc m) (body_token ∷ rest) = then_read
    (literals_up_to variables last (body_token ∷ rest))
    (λ r. with_read (λ cs. from_literals r.0 ∷ cs) (clauses_of variables last m r.1))

-- The text

-- the number of the last of n lines
abbrev pub last_line : ℕ → ℕ
last_line n = line_number (n - 1)

-- the clauses of these sizes, in lines before which n lines stand
abbrev pub body_of : ℕ → List (List ℕ) → ℕ × ℕ → Result FormulaValue CnfFault
body_of n lines sizes = with_read (formula_of sizes.0)
    (clauses_of sizes.0 (last_line (n + length lines)) sizes.1 (body_tokens_from n lines))

-- what lines spell, where n lines stand before them: silent ones, the header, the clauses
abbrev pub formula_from : ℕ → ℕ → List (List ℕ) → Result FormulaValue CnfFault
formula_from max n [] = fault_in (last_line n) NoHeader
formula_from max n (line ∷ lines) =
    if is_silent (tokens_of line) then formula_from max (n + 1) lines
    else then_read (header_of max (line_number n) (tokens_of line)) (body_of (n + 1) lines)

-- what a text spells, or its fault
abbrev pub read_cnf : ℕ → List ℕ → Result FormulaValue CnfFault
read_cnf max text = formula_from max 0 (lines_of text)

-- the text spells this formula
abbrev pub Spells : ℕ → List ℕ → FormulaValue → Type 0
Spells max text formula = read_cnf max text ≡ Ok formula

-- the text has this fault
abbrev pub HasFault : ℕ → List ℕ → CnfFault → Type 0
HasFault max text fault = read_cnf max text ≡ Err fault
