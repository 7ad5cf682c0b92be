-- What streams have given or taken so far.
use Rattle.std.specs.Prelude.{◌≡◌, ℕ, ◌++◌, Bool, true, List, Option}
use Rattle.std.specs.Io.KnownBytes.{Consumes, IsAtEnd}

-- A source at one time: the bytes that it has given, whether it has ended, the bytes still to come where it tells them, and how
-- often it has failed.
pub record SourceState : Type 0 where
  pub given : List ℕ
  pub ended : Bool
  pub rest : Option (List ℕ)
  pub failures : ℕ

-- a source's state, by the members of its trait
abbrev pub source_state : {S : Type 0} → (S → List ℕ) → (S → Bool) → (S → Option (List ℕ)) → (S → ℕ)
    → S → SourceState
source_state given ended rest failures source = record
    { given = given source; ended = ended source; rest = rest source; failures = failures source }

-- The source has ended, and where it tells what is still to come, that is nothing.
pub record HasEnded (source : SourceState) : Type 0 where
  pub ended : source.ended ≡ true
  pub rest : IsAtEnd source.rest

-- The bytes that a source gave between two times: they stand behind those given before, and where the source told what was to
-- come, they came first of that.
pub record HasGiven (before after : SourceState) (text : List ℕ) : Type 0 where
  pub given : after.given ≡ before.given ++ text
  pub rest : Consumes before.rest after.rest text

-- A reader, the bytes that it has given so far, whether it has told its end, and how often it has failed.
pub record ReaderSoFar (R : Type 0) : Type 0 where
  pub reader : R
  pub given : List ℕ
  pub ended : Bool
  pub failures : ℕ

-- A writer, the bytes that it has taken so far, and how often it has failed.
pub record WriterSoFar (W : Type 0) : Type 0 where
  pub writer : W
  pub taken : List ℕ
  pub failures : ℕ
