-- Lines that are written word by word: what stands in a word, and what a writer of words has left behind.
use Rattle.std.specs.Prelude.{◌≡◌, ℕ, ◌+◌, Bool, true, false, List, ◌∷◌, ◌++◌, codes}
use Rattle.std.specs.Fmt.{decimal, signed_decimal}
use Rattle.std.specs.Str.{byte}
use Rattle.lj_text.specs.Writing.{IsBeginning, IsCutShort}
use Rattle.lj_text.specs.declared.writer.token_writer.LineToken.{LineToken}
use Rattle.lj_text.specs.declared.writer.token_writer.LineToken.TheVariants.{Number, Literal, Candidate, Deletion, End}

-- the text of a word: a number, a literal, a candidate with a `-`, the `d` of a deletion, or the 0 at an end
abbrev pub token_text : LineToken → List ℕ
token_text (Number n) = decimal n
token_text (Literal l) = signed_decimal l
token_text (Candidate n) = byte "-" ∷ decimal n
token_text Deletion = codes "d"
token_text End = codes "0"

-- A writer of words: what it was given and its sink has not taken yet, and whether a write of the sink failed.
pub record TokensLeft : Type 0 where
  pub text : List ℕ
  pub failed : Bool

-- A sink and a writer of words for it: what the sink has taken, how often it failed, and what is left.
pub record TokenState : Type 0 where
  pub taken : List ℕ
  pub failures : ℕ
  pub left : TokensLeft

-- a sink that has taken this and failed so often, and a writer with this left for it
abbrev pub token_state : List ℕ → ℕ → TokensLeft → TokenState
token_state taken failures left = record { taken = taken; failures = failures; left = left }

-- the sink may be given words: unless the writer knows that it failed, it hasn't
abbrev pub MayBeGiven : TokenState → Type 0
MayBeGiven state = state.left.failed ≡ false → state.failures ≡ 0

-- What giving a text to a writer of words did. While no write of the sink fails, what the sink has taken and what is left
-- are what they were and the text behind it. In the call in which one fails, the sink takes a beginning of that and not
-- all. After that nothing changes.
pub record WasGiven (before : TokenState) (text : List ℕ) (after : TokenState) : Type 0 where
  pub whole : after.left.failed ≡ false → (before.left.failed ≡ false)
      × (after.taken ++ after.left.text ≡ (before.taken ++ before.left.text) ++ text)
      × (after.failures ≡ before.failures)
  pub cut_short : before.left.failed ≡ false → after.left.failed ≡ true
      → IsCutShort after.taken ((before.taken ++ before.left.text) ++ text)
      × (after.failures ≡ before.failures + 1)
  pub stays : before.left.failed ≡ true → after ≡ before
  pub onward : IsBeginning before.taken after.taken
