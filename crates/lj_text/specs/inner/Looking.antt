-- What a look at the lines ahead finds.
use Rattle.std.specs.Prelude.{◌≡◌, ℕ, ◌+◌, List, [], ◌∷◌, ◌++◌, ◌≤◌, length, take, Option, None, Some, Ok, Err, slice_get, MatchOption, true, false}
use Rattle.std.specs.List.{AllByRecursion}
use Rattle.lj_text.specs.declared.lines.fault.LineFault.{LineFault}
use Rattle.lj_text.specs.declared.lines.look.Found.{Found}
use Rattle.lj_text.specs.declared.line.Line.{Line}
use Rattle.lj_text.specs.Bytes.{line_number, lines_of}
use Rattle.lj_text.specs.Lines.{Said, said_from, whole_said_from, all_said_from, all_but_last}
use Rattle.lj_text.specs.LinesRead.{LinesRead, HasNoLineEnd, IsSaidAt, IsSaidRight, text_of_lines, is_line_no_memory}
use Rattle.lj_text.specs.inner.LinesBuffered.{reader_past}

-- what was found
abbrev pub said_of : ℕ → Option Line → List Said
said_of at None = []
said_of at (Some line) = record { line = at; says = Ok line } ∷ []

-- Whole lines at the front of what is ahead, where k lines stand before it: silent ones, and the first that says something, if there is one.
pub record Looked (max k : ℕ) (ahead : List ℕ) (found : Found) : Type 0 where
  pub lines : List (List ℕ)
  pub after : List ℕ
  pub whole : AllByRecursion HasNoLineEnd lines
  pub ahead_is : ahead ≡ text_of_lines lines ++ after
  pub left_is : found.left ≡ length after
  pub number_is : found.number ≡ line_number (k + length lines)
  pub said_is : said_from max k lines ≡ said_of found.at found.line
  pub searched_is : found.searched ≤ found.left
  pub none_before : HasNoLineEnd (take found.searched after)
  -- where no line was found, all that follows was searched
  pub all_searched : found.line ≡ None → found.searched ≡ found.left
  pub none_is : MatchOption found.line (HasNoLineEnd after × (found.at ≡ found.number))
      (λ line. Unit {0})

-- It is told at the first whole line that says something, and is that line's fault; memory ran out only where the line is right.
pub record Fails (max k : ℕ) (ahead : List ℕ) (fault : LineFault) : Type 0 where
  pub told : is_line_no_memory fault.kind ≡ false → slice_get (whole_said_from max k ahead) 0
      ≡ Some (record { line = fault.line; says = Err fault.kind })
  pub line_is : IsSaidAt (slice_get (whole_said_from max k ahead) 0) fault.line
  pub right : is_line_no_memory fault.kind ≡ true
      → IsSaidRight (slice_get (whole_said_from max k ahead) 0)

-- No whole line says anything, and this is what the last line says; nothing is left.
pub record LookedBehind (max k : ℕ) (ahead : List ℕ) (found : Found) : Type 0 where
  pub said_is : all_said_from max k ahead ≡ said_of found.at found.line
  pub number_is : found.number ≡ line_number (k + length (all_but_last (lines_of ahead)))
  pub at_is : found.at ≡ found.number
  pub left_is : found.left ≡ 0
  pub searched_is : found.searched ≡ 0

-- It is told at the first line that says something, and is that line's fault; memory ran out only where the line is right.
pub record FailsToEnd (max k : ℕ) (ahead : List ℕ) (fault : LineFault) : Type 0 where
  pub told : is_line_no_memory fault.kind ≡ false → slice_get (all_said_from max k ahead) 0
      ≡ Some (record { line = fault.line; says = Err fault.kind })
  pub line_is : IsSaidAt (slice_get (all_said_from max k ahead) 0) fault.line
  pub right : is_line_no_memory fault.kind ≡ true
      → IsSaidRight (slice_get (all_said_from max k ahead) 0)

-- A look finds this line, or that none says anything, and the reader goes on behind it.
pub record IsTaken (old new : LinesRead) (line : Option Line) : Type 0 where
  pub found : Found
  pub line_is : found.line ≡ line
  pub passed : new ≡ reader_past old found
  pub looked : (k : ℕ) → old.line ≡ line_number k → Looked old.max k old.ahead found
