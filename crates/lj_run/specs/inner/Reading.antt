-- How the lines of a stream are read from its source.
use Rattle.std.specs.Prelude.{◌≡◌, ℕ, ◌+◌, Bool, true, false, List, [], ◌++◌, take, None, Some, Ok, Err, slice_get, if◌then◌else◌}
use Rattle.lj_text.specs.Lines.{Said, all_said}
use Rattle.lj_text.specs.LinesRead.{LinesRead, LineReaderStandsAt, is_line_no_memory}
use Rattle.lj_text.specs.Streams.{SourceState, HasGiven, HasEnded}
use Rattle.lj_run.specs.declared.reading.Miss.{Miss}
use Rattle.lj_run.specs.declared.reading.Next.{Next}
use Rattle.lj_run.specs.declared.reading.Next.TheVariants as nexts
use Rattle.lj_run.specs.declared.reading.Miss.TheVariants.{Failed, AtFault}
use Rattle.lj_run.specs.Reading.{FailsAt, IsMemoryRefused, AreWhole}

-- The reader may go on: it has told no fault, and was told of the end only where the source has ended.
pub record MayRead (reader : LinesRead) (ended : Bool) : Type 0 where
  pub no_fault : reader.fault ≡ None
  pub goes_on : ended ≡ false → reader.finished ≡ false

-- The source gave a piece, and the reader stands behind it.
pub record PieceRead (fed : List ℕ) (handed : ℕ) (reader : LinesRead)
    (before after : SourceState) : Type 0 where
  pub piece : List ℕ
  pub gave : HasGiven before after piece
  pub stands : LineReaderStandsAt reader (fed ++ piece) handed

-- the next of these lines is this one, of this number; at the end there are no more; nothing is told yet where a piece was read
abbrev pub IsNext : List Said → ℕ → ℕ → Next → Type 0
IsNext lines handed at (nexts.Line line) = slice_get lines handed
    ≡ Some (record { line = at; says = Ok line })
IsNext lines handed at nexts.More = Unit {0}
IsNext lines handed at nexts.End = slice_get lines handed ≡ None

-- how many lines were handed out, with this one
abbrev pub with_handed : ℕ → Next → ℕ
with_handed handed (nexts.Line line) = handed + 1
with_handed handed nexts.More = handed
with_handed handed nexts.End = handed

-- The source gave a piece behind what the reader was fed. In all of that the lines handed out before are the same. A line that is
-- told is the next one, and whole unless the source has ended; where the end is told, the source has ended.
pub record LineRead (max : ℕ) (fed : List ℕ) (handed : ℕ) (reader : LinesRead)
    (before after : SourceState) (next : Next) : Type 0 where
  pub piece : List ℕ
  pub gave : HasGiven before after piece
  pub same : take handed (all_said max (fed ++ piece)) ≡ take handed (all_said max fed)
  pub is : IsNext (all_said max (fed ++ piece)) handed reader.at next
  pub stands : LineReaderStandsAt reader (fed ++ piece) (with_handed handed next)
  pub ended : next ≡ nexts.End → HasEnded after
  pub whole : AreWhole max (fed ++ piece) after (with_handed handed next)

-- the next line of a text is at fault, or a read failed; of the want of memory see IsMemoryRefused
abbrev pub IsMiss : ℕ → List ℕ → ℕ → ℕ → Miss → Type 0
IsMiss max text handed at Failed = FailsAt max text handed at
IsMiss max text handed at (AtFault fault) = is_line_no_memory fault.kind ≡ false
    → slice_get (all_said max text) handed
    ≡ Some (record { line = fault.line; says = Err fault.kind })

-- what holds of its line where memory was refused
abbrev pub IfOutOfMemory : Miss → (ℕ → Type 0) → Type 0
IfOutOfMemory Failed P = Unit {0}
IfOutOfMemory (AtFault fault) P = is_line_no_memory fault.kind ≡ true → P fault.line

-- how many lines are known with this one: a fault is that of a whole line
abbrev pub with_missed : ℕ → Miss → ℕ
with_missed handed Failed = handed
with_missed handed (AtFault fault) = if is_line_no_memory fault.kind then handed else handed + 1

-- The source gave a piece behind what the reader was fed. In all of that the lines handed out before are the same, and the next
-- one is missed. It is at fault only where it is whole or the source has ended.
pub record LineMissed (max : ℕ) (fed : List ℕ) (handed at : ℕ) (before after : SourceState)
    (miss : Miss) : Type 0 where
  pub piece : List ℕ
  pub gave : HasGiven before after piece
  pub same : take handed (all_said max (fed ++ piece)) ≡ take handed (all_said max fed)
  pub is : IsMiss max (fed ++ piece) handed at miss
  pub no_memory_left : IfOutOfMemory miss (IsMemoryRefused max (fed ++ piece) after.ended handed)
  pub whole : AreWhole max (fed ++ piece) after (with_missed handed miss)

-- how many reads failed
abbrev pub reads_failed : Miss → ℕ
reads_failed Failed = 1
reads_failed (AtFault fault) = 0

-- a read that failed gave nothing; of a piece, which a source gave that goes on, only the want of memory is told, at this line
abbrev pub IsPieceOf : ℕ → Bool → Miss → List ℕ → Type 0
IsPieceOf line ended Failed piece = piece ≡ []
IsPieceOf line ended (AtFault fault) piece = (is_line_no_memory fault.kind ≡ true)
    × (fault.line ≡ line) × (ended ≡ false)

-- A piece was missed, and the reader is as it was.
pub record PieceMissed (old new : LinesRead) (before after : SourceState)
    (miss : Miss) : Type 0 where
  pub piece : List ℕ
  pub gave : HasGiven before after piece
  pub is : IsPieceOf old.line after.ended miss piece
  pub same : new ≡ old
