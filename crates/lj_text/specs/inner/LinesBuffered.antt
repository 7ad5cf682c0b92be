-- What is true of the fields of a reader of lines, and its steps.
use Rattle.std.specs.Prelude.{◌≡◌, ℕ, ◌+◌, ◌-◌, ◌^◌, ◌<◌, ◌≤◌, List, [], ◌∷◌, ◌++◌, length, take, drop, get_or, Some, if◌then◌else◌}
use Rattle.std.specs.List.{AllByRecursion, concat}
use Rattle.std.specs.Str.{byte}
use Rattle.lj_text.specs.declared.lines.fault.LineFault.{LineFault}
use Rattle.lj_text.specs.declared.lines.look.Found.{Found}
use Rattle.lj_text.specs.Bytes.{line_number}
use Rattle.lj_text.specs.LinesRead.{LinesRead, HasNoLineEnd, is_line_no_memory}
use Rattle.lj_clause.specs.declared.lit.TheConstants.{MAX_VARIABLE}

-- the last byte is a line feed
abbrev pub EndsLine : List ℕ → Type 0
EndsLine bytes = get_or bytes (length bytes - 1) 0 ≡ byte "\n"

-- behind the first 65,535 bytes no line ends but at the end of all
abbrev pub HasNoLateEnd : List ℕ → Type 0
HasNoLateEnd bytes = (k : ℕ) → 65535 ≤ k → get_or bytes k 0 ≡ byte "\n" → length bytes ≤ k + 1

-- A run of whole lines: as many bytes as a piece or more, but fewer without the last line.
pub record IsLineRun (bytes : List ℕ) : Type 0 where
  pub long : 65536 ≤ length bytes
  pub ended : EndsLine bytes
  pub late : HasNoLateEnd bytes
  pub countable : length bytes < 2 ^ 64

-- what is done is less than the first run, and than the bytes that are no run yet, where these come first
abbrev pub IsDoneWithin : ℕ → List (List ℕ) → List ℕ → Type 0
IsDoneWithin start [] rest = (start ≤ length rest) × (0 < length rest → start < length rest)
IsDoneWithin start (run ∷ runs) rest = start < length run

-- Bytes are held as runs of lines, and then what is no run yet; of all these, so many, the first ones are done.
pub record IsInRuns (start : ℕ) (runs : List (List ℕ)) (rest : List ℕ) (count : ℕ) : Type 0 where
  pub whole : AllByRecursion IsLineRun runs
  pub late : HasNoLateEnd rest
  pub begun : IsDoneWithin start runs rest
  pub few : start ≤ 65536
  pub count_is : count ≡ length (concat runs ++ rest)

-- the place stands within the first run, if there is one
abbrev pub IsWithinFirst : ℕ → List (List ℕ) → Type 0
IsWithinFirst position [] = Unit {0}
IsWithinFirst position (run ∷ runs) = position < length run

-- Some runs before a place are gone, and it is this place among the others.
pub record IsLetGo (old new : List (List ℕ)) (position left : ℕ) : Type 0 where
  pub gone : List (List ℕ)
  pub old_is : old ≡ gone ++ new
  pub position_is : position ≡ length (concat gone) + left

-- Bytes stand ahead: some in front, then runs, and then what is no run yet. The front ends a line where anything follows it.
pub record IsAheadOfRuns (front : List ℕ) (runs : List (List ℕ)) (rest : List ℕ)
    (count : ℕ) : Type 0 where
  pub whole : AllByRecursion IsLineRun runs
  pub parted : 0 < length (concat runs ++ rest) → EndsLine front
  pub count_is : count ≡ length (front ++ (concat runs ++ rest))

-- the same, but that the front may have been passed
pub record IsPassed (front : List ℕ) (runs : List (List ℕ)) (rest : List ℕ)
    (count : ℕ) : Type 0 where
  pub whole : AllByRecursion IsLineRun runs
  pub parted : 0 < length front → 0 < length (concat runs ++ rest) → EndsLine front
  pub count_is : count ≡ length (front ++ (concat runs ++ rest))

-- the bytes behind this place begin a line
abbrev pub BeginsLineAt : List ℕ → ℕ → Type 0
BeginsLineAt bytes position = 0 < position → get_or bytes (position - 1) 0 ≡ byte "\n"

-- Bytes are held, and no line ends among the first that were searched; their first line has a number.
pub record IsBuffered (max searched line : ℕ) (ahead : List ℕ) : Type 0 where
  pub max_is : max ≤ MAX_VARIABLE
  pub within : searched ≤ length ahead
  pub none_before : HasNoLineEnd (take searched ahead)
  pub before : ℕ
  pub line_is : line ≡ line_number before

-- the lines up to what was found are done
abbrev pub reader_past : LinesRead → Found → LinesRead
reader_past r found = record r
    { ahead = drop (length r.ahead - found.left) r.ahead; line = found.number; at = found.at }

-- what was found may be passed
pub record IsAhead (ahead : List ℕ) (found : Found) : Type 0 where
  pub left : found.left ≤ length ahead
  pub begins : 0 < found.left → BeginsLineAt ahead (length ahead - found.left)
  pub searched : found.searched ≤ found.left
  pub none_before : HasNoLineEnd (take found.searched (drop (length ahead - found.left) ahead))
  pub before : ℕ
  pub number_is : found.number ≡ line_number before

-- a fault is kept, but for the want of memory
abbrev pub reader_with_fault : LinesRead → LineFault → LinesRead
reader_with_fault r fault = if is_line_no_memory fault.kind then r
    else record r { at = fault.line; fault = Some fault }
