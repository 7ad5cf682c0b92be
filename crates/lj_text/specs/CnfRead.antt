-- What a reader of a formula was fed, and what it answers.
use Rattle.std.specs.Prelude.{◌≡◌, ℕ, ◌+◌, ◌<◌, ◌≤◌, ◌⊎◌, true, false, List, ◌∷◌, ◌++◌, length, Option, None, Some, Result, Ok, Err, Bool}
use Rattle.std.specs.List.{AllByRecursion}
use Rattle.std.specs.Str.{byte}
use Rattle.lj_clause.specs.ClauseMap.{FormulaValue}
use Rattle.lj_text.specs.declared.cnf.fault.CnfFault.{CnfFault}
use Rattle.lj_text.specs.Bytes.{line_number, lines_of, tokens_of}
use Rattle.lj_text.specs.Lines.{all_but_last}
use Rattle.lj_text.specs.LinesRead.{HasNoLineEnd, text_of_lines}
use Rattle.lj_text.specs.Cnf.{last_line, body_tokens_from, read_cnf, Spells, HasFault}
use Rattle.lj_text.specs.CnfReading.{Begun, formula_after, keeps_first}
use Rattle.lj_text.specs.declared.cnf.fault.CnfFaultKind.{CnfFaultKind}
use Rattle.lj_text.specs.declared.cnf.fault.CnfFaultKind.TheVariants.{NoMemory}

-- whether it is the want of memory, which is no fault of a text
abbrev pub is_cnf_no_memory : CnfFaultKind → Bool
is_cnf_no_memory (NoMemory _) = true
is_cnf_no_memory kind = false

-- What a reader of a formula was fed.
pub record CnfRead : Type 0 where
  -- the greatest variable
  pub max : ℕ
  -- the text so far
  pub fed : List ℕ
  -- the fault that is told from now on
  pub fault : Option CnfFault

-- a formula is what the text spells, and a fault is the text's, unless memory ran out
abbrev pub IsAnswer : ℕ → List ℕ → Result FormulaValue CnfFault → Type 0
IsAnswer max text (Ok formula) = Spells max text formula
IsAnswer max text (Err fault) = is_cnf_no_memory fault.kind ≡ false → HasFault max text fault

-- every text that begins so has this fault
abbrev pub HasFaultAlready : ℕ → List ℕ → CnfFault → Type 0
HasFaultAlready max text fault = (more : List ℕ) → HasFault max (text ++ more) fault

-- the fault that an answer tells
abbrev pub cnf_fault_of : {X : Type 0} → Result X CnfFault → Option CnfFault
cnf_fault_of (Ok x) = None
cnf_fault_of (Err fault) = Some fault

-- bytes that no line feed ends
abbrev pub IsLeftOpen : List ℕ → Type 0
IsLeftOpen bytes = (0 < length bytes) × HasNoLineEnd bytes

-- The line behind these lines begins with a number where a clause is to come: whatever follows them, the grammar reads it behind
-- the clauses so far, and the number belongs to the next.
pub record BeginsByNumber (max : ℕ) (lines : List (List ℕ)) (line : List ℕ) : Type 0 where
  pub begun : Begun
  pub reads : (more : List ℕ) → read_cnf max (text_of_lines lines ++ more)
      ≡ formula_after begun (last_line (length lines + length (lines_of more)))
      (body_tokens_from (length lines) (lines_of more))
  pub number : keeps_first begun (tokens_of line) ≡ true

-- a part of the line behind these lines
abbrev pub IsBehindLines : List (List ℕ) → List ℕ → Type 0
IsBehindLines lines text = (part : List ℕ) × (text ≡ text_of_lines lines ++ part) × IsLeftOpen part

-- the line behind these lines is whole, and begins with a number where a clause is to come
abbrev pub IsWholeByNumber : ℕ → List (List ℕ) → List ℕ → Type 0
IsWholeByNumber max lines left = (line : List ℕ) × (after : List ℕ)
    × (left ≡ line ++ byte "\n" ∷ after) × BeginsByNumber max lines line

-- A line needs room where a piece follows a text. It isn't whole in the text; a part of it stands there, or it isn't whole with the
-- piece either and has to be held, or it begins with a number where a clause is to come.
pub record NeedsMemory (max : ℕ) (text piece : List ℕ) (line : ℕ) : Type 0 where
  pub lines : List (List ℕ)
  pub whole : AllByRecursion HasNoLineEnd lines
  pub left : List ℕ
  pub cut : text ++ piece ≡ text_of_lines lines ++ left
  pub line_is : line ≡ line_number (length lines)
  pub behind : length (all_but_last (lines_of text)) ≤ length lines
  pub scratch : IsBehindLines lines text ⊎ (IsLeftOpen left ⊎ IsWholeByNumber max lines left)

-- The text's last line, which no line feed ends, begins with a number where a clause is to come.
pub record EndsByNumber (max : ℕ) (text : List ℕ) : Type 0 where
  pub lines : List (List ℕ)
  pub whole : AllByRecursion HasNoLineEnd lines
  pub last : List ℕ
  pub cut : text ≡ text_of_lines lines ++ last
  pub none : HasNoLineEnd last
  pub begins : BeginsByNumber max lines last
