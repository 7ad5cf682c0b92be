-- How the lines of a stream are read from its source.
use Rattle.std.specs.Prelude.{◌≡◌, ◌≤◌, ◌⊎◌, ℕ, Bool, false, List, ◌++◌, length, Some, Ok, slice_get}
use Rattle.lj_text.specs.declared.line.Line.{Line}
use Rattle.lj_text.specs.Lines.{whole_said, all_said}
use Rattle.lj_text.specs.LinesRead.{last_number}
use Rattle.lj_text.specs.Streams.{SourceState, HasEnded}

-- so many lines stand whole in the text that the source gave, or it has ended: then its last line is whole, too
abbrev pub AreWhole : ℕ → List ℕ → SourceState → ℕ → Type 0
AreWhole max text source count = (count ≤ length (whole_said max text)) ⊎ HasEnded source

-- Reading stops in the last line of a text: the lines handed out are those that its whole lines say.
pub record FailsAt (max : ℕ) (text : List ℕ) (handed at : ℕ) : Type 0 where
  pub at_is : at ≡ last_number text
  pub handed_is : handed ≡ length (whole_said max text)

-- The next line of a text is this one, and it is right.
pub record IsRightLine (max : ℕ) (text : List ℕ) (handed n : ℕ) : Type 0 where
  pub line : Line
  pub next : slice_get (all_said max text) handed ≡ Some (record { line = n; says = Ok line })

-- The last piece of a text was given, and not taken: reading stops in the last line of what stands before it, and the source goes on.
pub record IsPieceRefused (max : ℕ) (text : List ℕ) (ended : Bool) (handed n : ℕ) : Type 0 where
  pub front : List ℕ
  pub piece : List ℕ
  pub text_is : text ≡ front ++ piece
  pub stops : FailsAt max front handed n
  pub goes_on : ended ≡ false

-- memory was refused in this line: it is the next one and right, or a piece behind its beginning wasn't taken
abbrev pub IsMemoryRefused : ℕ → List ℕ → Bool → ℕ → ℕ → Type 0
IsMemoryRefused max text ended handed n = IsRightLine max text handed n
    ⊎ IsPieceRefused max text ended handed n
