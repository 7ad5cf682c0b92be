-- What a call left of a text that it had to write: what the sink took, and what is held back.
use Rattle.std.specs.Prelude.{◌≡◌, ℕ, List, ◌++◌, flat_map}
use Rattle.lj_text.specs.Writing.{IsBeginning, IsCutShort, spaced_token}

-- The text follows what was taken and held before, and the sink has what it had and perhaps more.
pub record Wrote (taken_before buffer_before taken_after buffer_after text : List ℕ) : Type 0 where
  pub whole : taken_after ++ buffer_after ≡ (taken_before ++ buffer_before) ++ text
  pub onward : IsBeginning taken_before taken_after

-- The sink failed. It has a beginning of the text behind what was taken and held before, and not all of it.
pub record Broke (taken_before buffer_before taken_after text : List ℕ) : Type 0 where
  pub cut_short : IsCutShort taken_after ((taken_before ++ buffer_before) ++ text)
  pub onward : IsBeginning taken_before taken_after

-- words, each with a space before it
abbrev pub spaced_tokens : List (List ℕ) → List ℕ
spaced_tokens values = flat_map spaced_token values
