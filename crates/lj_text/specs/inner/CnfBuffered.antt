-- What is true of the fields of a reader of a formula, and its steps over a piece.
use Rattle.std.specs.Prelude.{◌≡◌, ℕ, ◌+◌, ◌<◌, ◌≤◌, ◌⊎◌, true, false, List, [], ◌∷◌, ◌++◌, length, None, Some, Err}
use Rattle.std.specs.List.{AllByRecursion}
use Rattle.std.specs.Str.{byte}
use Rattle.lj_text.specs.declared.cnf.fault.CnfFault.{CnfFault}
use Rattle.lj_text.specs.declared.cnf.state.State.{State}
use Rattle.lj_text.specs.Bytes.{line_number, lines_of, tokens_of}
use Rattle.lj_text.specs.LinesRead.{HasNoLineEnd, text_of_lines}
use Rattle.lj_text.specs.Cnf.{read_cnf}
use Rattle.lj_text.specs.CnfRead.{HasFaultAlready, IsLeftOpen, is_cnf_no_memory}
use Rattle.lj_text.specs.inner.CnfResuming.{asks_memory, kept_fault, formula_from_state}
use Rattle.lj_clause.specs.declared.lit.TheConstants.{MAX_VARIABLE}

-- What was fed is whole lines and then what is held; and whatever follows the lines, the grammar reads from the state on what it
-- reads of the whole.
pub record CnfStandsAt (max line : ℕ) (buffer : List ℕ) (state : State) (fed : List ℕ) : Type 0
  where
    pub lines : List (List ℕ)
    pub whole : AllByRecursion HasNoLineEnd lines
    pub text_is : fed ≡ text_of_lines lines ++ buffer
    pub line_is : line ≡ line_number (length lines)
    pub reads : (more : List ℕ) → read_cnf max (text_of_lines lines ++ more)
        ≡ formula_from_state max (length lines) state (lines_of more)

-- The state is that of what was fed, and a fault that is kept is its fault.
pub record IsCnfBuffered (max line : ℕ) (buffer : List ℕ) (state : State) (fed : List ℕ) : Type 0
  where
    pub max_is : max ≤ MAX_VARIABLE
    pub none : HasNoLineEnd buffer
    pub stands : kept_fault state ≡ None → CnfStandsAt max line buffer state fed
    pub told : (fault : CnfFault) → kept_fault state ≡ Some fault
        → is_cnf_no_memory fault.kind ≡ false → HasFaultAlready max fed fault

-- lines are read from a state on, and lead to another
abbrev pub Leads : ℕ → ℕ → State → List (List ℕ) → State → Type 0
Leads max n old lines new = (more : List ℕ)
    → formula_from_state max n old (lines_of (text_of_lines lines ++ more))
    ≡ formula_from_state max (n + length lines) new (lines_of more)

-- the first line of the bytes is whole, and the state keeps what it says
abbrev pub IsKeptLine : State → List ℕ → Type 0
IsKeptLine state bytes = (line : List ℕ) × (after : List ℕ)
    × (bytes ≡ line ++ byte "\n" ∷ after) × (asks_memory state (tokens_of line) ≡ true)

-- A line needs room among those of which these bytes are held and which a piece goes on with. Whole lines were read before it.
-- A part of it was held before, or it isn't whole yet and has to be held, or it begins with a number where a clause is to come.
pub record NeedsMemoryFrom (max first : ℕ) (old : State) (buffer piece : List ℕ)
    (line : ℕ) : Type 0 where
  pub lines : List (List ℕ)
  pub whole : AllByRecursion HasNoLineEnd lines
  pub left : List ℕ
  pub cut : buffer ++ piece ≡ text_of_lines lines ++ left
  pub line_is : (n : ℕ) → first ≡ line_number n → line ≡ line_number (n + length lines)
  pub state : State
  pub reads : (n : ℕ) → first ≡ line_number n → Leads max n old lines state
  pub scratch : ((lines ≡ []) × (0 < length buffer)) ⊎ (IsLeftOpen left ⊎ IsKeptLine state left)

-- What was read of a piece behind what was held.
pub record Taken (max first : ℕ) (old : State) (buffer piece : List ℕ) (new : State) (line : ℕ)
    (left : List ℕ) : Type 0 where
  pub none : HasNoLineEnd left
  pub lines : List (List ℕ)
  pub whole : AllByRecursion HasNoLineEnd lines
  pub line_is : (n : ℕ) → first ≡ line_number n → line ≡ line_number (n + length lines)
  pub text_is : kept_fault new ≡ None → buffer ++ piece ≡ text_of_lines lines ++ left
  pub reads : kept_fault new ≡ None → (n : ℕ) → first ≡ line_number n → Leads max n old lines new
  pub told : (fault : CnfFault) → kept_fault new ≡ Some fault → is_cnf_no_memory fault.kind ≡ false
      → (n : ℕ) → first ≡ line_number n → (more : List ℕ)
      → formula_from_state max n old (lines_of (buffer ++ (piece ++ more))) ≡ Err fault
