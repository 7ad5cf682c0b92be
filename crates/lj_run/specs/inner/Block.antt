-- How the lines of a block are read, which are handed in together.
use Rattle.std.specs.Prelude.{◌≡◌, ℕ, ◌+◌, ◌≤◌, Bool, false, List, [], ◌∷◌, ◌++◌, length, map, take, drop, Option, None, Some, Ok, IfSome, MatchOption, is_none, slice_get}
use Rattle.lj_text.specs.declared.line.Line.{Line}
use Rattle.lj_text.specs.declared.line.Line.TheVariants.{Add, Delete, Import}
use Rattle.lj_text.specs.declared.lines.fault.LineFault.{LineFault}
use Rattle.lj_text.specs.Lines.{Said, all_said}
use Rattle.lj_text.specs.LinesRead.{LinesRead, LineReaderStandsAt}
use Rattle.lj_text.specs.Streams.{SourceState, HasGiven}
use Rattle.lj_book.specs.declared.refusal.Refusal.{Refusal}
use Rattle.lj_run.specs.declared.outcome.End.{End}
use Rattle.lj_run.specs.declared.outcome.End.TheVariants.{Ended, Stopped, Line as AtLine}
use Rattle.lj_run.specs.declared.outcome.LineEnd.TheVariants.{Refused}
use Rattle.lj_run.specs.declared.stream.Tally.{Tally}
use Rattle.lj_run.specs.inner.Tally.{with_lines}
use Rattle.lj_run.specs.declared.reading.Miss.TheVariants.{AtFault}
use Rattle.lj_share.specs.declared.numbered.Numbered.{Numbered}
use Rattle.lj_run.specs.Reading.{AreWhole}
use Rattle.lj_run.specs.inner.Reading.{LineMissed}

-- whether the line adds the empty clause, and so ends its block
abbrev pub ends_block : Line → Bool
ends_block (Add a) = is_none a.lemma.pivot
ends_block (Delete numbers) = false
ends_block (Import number clause) = false

-- what a line with its number says
abbrev pub said_in_block : Numbered → Said
said_in_block numbered = record { line = numbered.at; says = Ok numbered.line }

-- from the one behind so many on, these are the next ones of what is said
abbrev pub AreNext : List Said → ℕ → List Numbered → Type 0
AreNext said handed [] = Unit {0}
AreNext said handed (line ∷ lines) = (slice_get said handed ≡ Some (said_in_block line))
    × AreNext said (handed + 1) lines

-- The source gave a piece behind what the reader was fed. In all of that the lines handed out before are the same, and these are the
-- next ones, and whole unless the source has ended. Where a fault is told, the one behind them is missed by it.
pub record BlockRead (max : ℕ) (fed : List ℕ) (handed : ℕ) (reader : LinesRead)
    (before after : SourceState) (lines : List Numbered) (fault : Option LineFault) : Type 0 where
  pub piece : List ℕ
  pub gave : HasGiven before after piece
  pub same : take handed (all_said max (fed ++ piece)) ≡ take handed (all_said max fed)
  pub next : AreNext (all_said max (fed ++ piece)) handed lines
  pub stands : LineReaderStandsAt reader (fed ++ piece) (handed + length lines)
  pub whole : AreWhole max (fed ++ piece) after (handed + length lines)
  pub ahead : IfSome fault (λ told. LineMissed max (fed ++ piece) (handed + length lines) told.line
      after after (AtFault told))

-- a stream ends so at the next of these lines, or before it, and the line is kept where it was refused
abbrev pub EndsInBlock : (Line → Refusal → Type 0) → Type 0 → Type 0 → List Numbered → End
    → Option Line → Type 0
EndsInBlock refused stopped goes_on rest Ended kept = ⊥
EndsInBlock refused stopped goes_on rest Stopped kept = stopped × (kept ≡ None)
EndsInBlock refused stopped goes_on rest (AtLine n (Refused refusal)) kept = (line : Numbered)
    × (slice_get rest 0 ≡ Some line) × (n ≡ line.at) × refused line.line refusal × goes_on
    × (kept ≡ Some line.line)
EndsInBlock refused stopped goes_on rest (AtLine n end) kept = ⊥

-- The first of a block's lines were entered, so many, and counted: all of them, or the stream ends so at the next one.
pub record BlockEntered (entered : List Said → Type 0) (refused : Line → Refusal → Type 0)
    (stopped goes_on : Type 0) (lines : List Numbered) (before after : Tally)
    (ending : Option (End × Option Line)) : Type 0 where
  pub count : ℕ
  pub within : count ≤ length lines
  pub enters : entered (map said_in_block (take count lines))
  pub counted : after ≡ with_lines before (take count lines)
  pub ends : MatchOption ending (count ≡ length lines)
      (λ e. EndsInBlock refused stopped goes_on (drop count lines) e.0 e.1)
