-- What the lines of a stream make of a book's state.
use Rattle.std.specs.Prelude.{◌≡◌, ℕ, ◌+◌, Bool, true, false, List, [], ◌∷◌, length, filter, take, drop, Option, Some, None, Result, Ok, Err, is_some, option_and_then, slice_get, if◌then◌else◌}
use Rattle.lj_text.specs.declared.line.Line.{Line}
use Rattle.lj_text.specs.declared.line.Line.TheVariants.{Add, Delete, Import}
use Rattle.lj_text.specs.declared.lines.fault.LineFaultKind.{LineFaultKind}
use Rattle.lj_text.specs.declared.lines.fault.LineFaultKind.TheVariants as kinds
use Rattle.lj_text.specs.Lines.{Said, all_said}
use Rattle.lj_text.specs.Streams.{SourceState, HasGiven, HasEnded}
use Rattle.lj_book.specs.declared.refusal.Refusal.{Refusal}
use Rattle.lj_book.specs.State.{verdict}
use Rattle.lj_book.specs.Named.{NamedState, after_named, beneath}
use Rattle.lj_book.specs.NamedReplies.{named_drop, named_import, named_inside}
use Rattle.lj_book.specs.NamedInside.{named_inside_entry}
use Rattle.lj_book.specs.NamedEntries.{named_import_entry}
use Rattle.lj_book.specs.Calls.{drop_entry}
use Rattle.lj_run.specs.Reading.{FailsAt, IsMemoryRefused, AreWhole}
use Rattle.lj_run.specs.declared.outcome.End.{End}
use Rattle.lj_run.specs.declared.outcome.End.TheVariants.{Ended, Stopped, Line as AtLine}
use Rattle.lj_run.specs.declared.outcome.Report.{Report}
use Rattle.lj_run.specs.declared.outcome.LineEnd.TheVariants.{Fault, Refused, ReadFailed}
use Rattle.lj_clause.specs.declared.lit.TheConstants.{MAX_VARIABLE}

-- ---- one line

-- the state, where the call that makes it is accepted
abbrev pub if_accepted : {A : Type 0} → Result A Refusal → NamedState → Option NamedState
if_accepted (Ok reply) s = Some s
if_accepted (Err refusal) s = None

-- the state after a seat's line, where the book accepts it
abbrev pub state_after_line : ℕ → NamedState → Line → Option NamedState
state_after_line seat s (Add a) = if_accepted (named_inside s seat a)
    (after_named s (named_inside_entry s seat a))
state_after_line seat s (Delete numbers) = if_accepted (named_drop s seat numbers)
    (after_named s (drop_entry (beneath s) seat numbers))
state_after_line seat s (Import number clause) = if_accepted (named_import s seat number clause)
    (after_named s (named_import_entry s seat number clause))

-- ---- the lines of a stream

-- whether the state has a verdict
abbrev pub has_verdict : NamedState → Bool
has_verdict s = is_some (verdict s.history)

-- the state after what a line says, where it is right and accepted
abbrev pub state_after_said : ℕ → NamedState → Result Line LineFaultKind → Option NamedState
state_after_said seat s (Ok line) = state_after_line seat s line
state_after_said seat s (Err kind) = None

-- what lines leave, where none is at fault or refused and the verdict stands before none of them
abbrev pub state_after_lines : ℕ → NamedState → List Said → Option NamedState
state_after_lines seat s [] = Some s
state_after_lines seat s (said ∷ more) = if has_verdict s then None else option_and_then
    (λ t. state_after_lines seat t more) (state_after_said seat s said.says)

-- ---- how a stream ends

-- the first of the lines is this one, and its text has this fault; of the want of memory see IsMemoryRefused
abbrev pub MeetsFault : ℕ → LineFaultKind → List Said → Type 0
MeetsFault n (kinds.NoMemory _) rest = Unit {0}
MeetsFault n kind rest = slice_get rest 0 ≡ Some (record { line = n; says = Err kind })

-- The first of the lines is this one, and it is refused for this reason.
pub record MeetsRefusal (refused : Line → Refusal → Type 0) (n : ℕ) (refusal : Refusal)
    (rest : List Said) : Type 0 where
  pub line : Line
  pub first : slice_get rest 0 ≡ Some (record { line = n; says = Ok line })
  pub is : refused line refusal

-- the line that is kept is the first of these where it was refused, and else none is
abbrev pub KeepsRefused : End → Option Line → List Said → Type 0
KeepsRefused Ended kept rest = kept ≡ None
KeepsRefused Stopped kept rest = kept ≡ None
KeepsRefused (AtLine n (Refused refusal)) kept rest = (line : Line) × (kept ≡ Some line)
    × (slice_get rest 0 ≡ Some (record { line = n; says = Ok line }))
KeepsRefused (AtLine n end) kept rest = kept ≡ None

-- what holds where a stream ended at a read that failed
abbrev pub IfReadFailed : End → (ℕ → Type 0) → Type 0
IfReadFailed Ended P = Unit {0}
IfReadFailed Stopped P = Unit {0}
IfReadFailed (AtLine n ReadFailed) P = P n
IfReadFailed (AtLine n end) P = Unit {0}

-- how many reads of a stream failed that ended so
abbrev pub failed_reads : End → ℕ
failed_reads Ended = 0
failed_reads Stopped = 0
failed_reads (AtLine n ReadFailed) = 1
failed_reads (AtLine n end) = 0

-- what holds where a stream ended for want of memory while its next line was read
abbrev pub IfMemoryRefused : End → (ℕ → Type 0) → Type 0
IfMemoryRefused Ended P = Unit {0}
IfMemoryRefused Stopped P = Unit {0}
IfMemoryRefused (AtLine n (Fault (kinds.NoMemory _))) P = P n
IfMemoryRefused (AtLine n end) P = Unit {0}

-- how many lines were judged of a stream that ended so after so many were entered: those, and the one that is at fault or refused
abbrev pub judged_count : ℕ → End → ℕ
judged_count entered Ended = entered
judged_count entered Stopped = entered
judged_count entered (AtLine n (Fault (kinds.NoMemory _))) = entered
judged_count entered (AtLine n (Fault kind)) = entered + 1
judged_count entered (AtLine n (Refused refusal)) = entered + 1
judged_count entered (AtLine n ReadFailed) = entered

-- ---- the run of a stream

-- whether what a line says is an addition
abbrev pub says_addition : Result Line LineFaultKind → Bool
says_addition (Ok (Add a)) = true
says_addition says = false

-- whether it is a deletion
abbrev pub says_deletion : Result Line LineFaultKind → Bool
says_deletion (Ok (Delete numbers)) = true
says_deletion says = false

-- whether it is an import
abbrev pub says_import : Result Line LineFaultKind → Bool
says_import (Ok (Import number clause)) = true
says_import says = false

-- how many of the lines say something of such a kind
abbrev pub how_many : (Result Line LineFaultKind → Bool) → List Said → ℕ
how_many is lines = length (filter (λ said. is said.says) lines)

-- The counts are how many of the lines are additions, deletions and imports.
pub record AreCountsOf (lines : List Said) (added deleted imported : ℕ) : Type 0 where
  pub added_is : added ≡ how_many says_addition lines
  pub deleted_is : deleted ≡ how_many says_deletion lines
  pub imported_is : imported ≡ how_many says_import lines

-- A stream ends so with these lines still to come, where its lines are refused in this way, and where the one or the other holds of
-- its book, by whether the verdict stands: at its end, where the verdict stands, or at that line. Of a read that failed see FailsAt.
abbrev pub StreamEnds : (Line → Refusal → Type 0) → Type 0 → Type 0 → List Said → End → Type 0
StreamEnds refused stopped goes_on rest Ended = (rest ≡ []) × goes_on
StreamEnds refused stopped goes_on rest Stopped = stopped
StreamEnds refused stopped goes_on rest (AtLine n (Fault kind)) = MeetsFault n kind rest × goes_on
StreamEnds refused stopped goes_on rest (AtLine n (Refused refusal)) =
    MeetsRefusal refused n refusal rest × goes_on
StreamEnds refused stopped goes_on rest (AtLine n ReadFailed) = goes_on

-- The report is right of this stream. What its source gave meanwhile are its lines: all of them where it ended, as the source has
-- then, and the first ones else. The first of them were entered, in this way, and the counts are theirs; the next one was not. No line
-- is entered or judged that isn't whole, unless the source has ended. A read failed exactly where that is how it ended. Where memory was
-- refused to the reading of a line see IsMemoryRefused. The line that was refused is kept.
pub record IsStreamRun {S : Type 0} (entered : List Said → Type 0)
    (refused : Line → Refusal → Type 0) (stopped goes_on : Type 0) (seen : S → SourceState)
    (stream : S) (report : Report S) : Type 0 where
  pub text : List ℕ
  pub gave : HasGiven (seen stream) (seen report.source) text
  pub count : ℕ
  pub enters : entered (take count (all_said MAX_VARIABLE text))
  pub counts : AreCountsOf (take count (all_said MAX_VARIABLE text)) report.added report.deleted
      report.imported
  pub ends : StreamEnds refused stopped goes_on (drop count (all_said MAX_VARIABLE text)) report.end
  pub kept : KeepsRefused report.end report.refused (drop count (all_said MAX_VARIABLE text))
  pub failed_read : IfReadFailed report.end (FailsAt MAX_VARIABLE text count)
  pub no_memory_left : IfMemoryRefused report.end
      (IsMemoryRefused MAX_VARIABLE text (seen report.source).ended count)
  pub ended : report.end ≡ Ended → HasEnded (seen report.source)
  pub failures : (seen report.source).failures ≡ failed_reads report.end
  pub whole : AreWhole MAX_VARIABLE text (seen report.source) (judged_count count report.end)
