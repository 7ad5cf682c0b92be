-- What a reader of lines holds of what was fed, and what it answers.
use Rattle.std.specs.Prelude.{◌≡◌, ℕ, Bool, false, List, [], ◌∷◌, ◌++◌, length, Option, None, Some, Result, Ok, Err, All, IsOk, MatchBool, true}
use Rattle.std.specs.List.{AllByRecursion}
use Rattle.std.specs.Str.{byte}
use Rattle.lj_text.specs.declared.lines.fault.LineFault.{LineFault}
use Rattle.lj_text.specs.declared.lines.fault.LineFaultKind.{LineFaultKind}
use Rattle.lj_text.specs.declared.line.Line.{Line}
use Rattle.lj_text.specs.Bytes.{is_line_end, line_number, lines_of}
use Rattle.lj_text.specs.Lines.{Said, said_from, all_said, all_but_last}
use Rattle.lj_text.specs.declared.lines.fault.LineFaultKind.TheVariants.{NoMemory}

-- whether it is the want of memory, which is no fault of a line
abbrev pub is_line_no_memory : LineFaultKind → Bool
is_line_no_memory (NoMemory _) = true
is_line_no_memory kind = false

-- What a reader of lines holds.
pub record LinesRead : Type 0 where
  -- the greatest variable of a literal
  pub max : ℕ
  -- what was fed behind the lines that are done
  pub ahead : List ℕ
  -- the number of the line with which that begins
  pub line : ℕ
  -- the number of the line that was looked at last
  pub at : ℕ
  -- whether the input has ended
  pub finished : Bool
  -- the fault that is told from now on
  pub fault : Option LineFault

-- none of the bytes is a line feed
abbrev pub HasNoLineEnd : List ℕ → Type 0
HasNoLineEnd bytes = All (λ b. is_line_end b ≡ false) bytes

-- lines, with a line feed behind each
abbrev pub text_of_lines : List (List ℕ) → List ℕ
text_of_lines [] = []
text_of_lines (line ∷ lines) = line ++ byte "\n" ∷ text_of_lines lines

-- the number of a text's last line, which no line feed ends
abbrev pub last_number : List ℕ → ℕ
last_number text = line_number (length (all_but_last (lines_of text)))

-- The text is some whole lines that are done, `given` of which say something, and then what the reader holds.
pub record StandsWithin (reader : LinesRead) (text : List ℕ) (given : ℕ) : Type 0 where
  pub lines : List (List ℕ)
  pub whole : AllByRecursion HasNoLineEnd lines
  pub text_is : text ≡ text_of_lines lines ++ reader.ahead
  pub line_is : reader.line ≡ line_number (length lines)
  pub given_is : given ≡ length (said_from reader.max 0 lines)

-- The input has ended, all of its lines are done, and `given` of them say something.
pub record StandsBehind (reader : LinesRead) (text : List ℕ) (given : ℕ) : Type 0 where
  pub given_is : given ≡ length (all_said reader.max text)
  pub line_is : reader.line ≡ last_number text

-- the reader stands at a text of which it has handed out `given` lines
abbrev pub LineReaderStandsAt : LinesRead → List ℕ → ℕ → Type 0
LineReaderStandsAt reader text given = MatchBool reader.finished (StandsBehind reader text given)
    (StandsWithin reader text given)

-- The reader stands at a text of which it has handed out `given` lines, and no line so far was at fault.
pub record IsReadingAt (reader : LinesRead) (text : List ℕ) (given : ℕ) : Type 0 where
  pub stands : LineReaderStandsAt reader text given
  pub no_fault : reader.fault ≡ None

-- the answer of a line with this number that is right, or its fault
abbrev pub answer_of_line : ℕ → Result Line LineFaultKind → Result (Option Line) LineFault
answer_of_line n (Ok line) = Ok (Some line)
answer_of_line n (Err kind) = Err (record { kind = kind; line = n })

-- the answer where a line says something, or none does
abbrev pub line_answer : Option Said → Result (Option Line) LineFault
line_answer None = Ok None
line_answer (Some said) = answer_of_line said.line said.says

-- the number of the line that says something, or else of the one being read
abbrev pub line_number_of : Option Said → ℕ → ℕ
line_number_of None last = last
line_number_of (Some said) last = said.line

-- there is such a line, and this is its number
abbrev pub IsSaidAt : Option Said → ℕ → Type 0
IsSaidAt None line = ⊥
IsSaidAt (Some said) line = said.line ≡ line

-- there is such a line, and it is right
abbrev pub IsSaidRight : Option Said → Type 0
IsSaidRight None = ⊥
IsSaidRight (Some said) = IsOk said.says

-- whether memory ran out
abbrev pub wants_memory : {X : Type 0} → Result X LineFault → Bool
wants_memory (Ok x) = false
wants_memory (Err fault) = is_line_no_memory fault.kind

-- how many lines an answer hands out
abbrev pub handed_out : Result (Option Line) LineFault → ℕ
handed_out (Ok None) = 0
handed_out (Ok (Some line)) = 1
handed_out (Err fault) = 0

-- the fault that an answer tells
abbrev pub fault_of : Result (Option Line) LineFault → Option LineFault
fault_of (Ok line) = None
fault_of (Err fault) = Some fault
