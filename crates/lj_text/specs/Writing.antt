-- Beginnings of texts, and a word behind others.
use Rattle.std.specs.Prelude.{◌≡◌, ℕ, List, ◌∷◌, ◌++◌}
use Rattle.std.specs.Str.{byte}

-- the list begins the other one
abbrev pub IsBeginning : List ℕ → List ℕ → Type 0
IsBeginning front whole = (rest : List ℕ) × (whole ≡ front ++ rest)

-- the list begins the other one, and is not all of it
abbrev pub IsCutShort : List ℕ → List ℕ → Type 0
IsCutShort front whole = (byte : ℕ) × (rest : List ℕ) × (whole ≡ front ++ byte ∷ rest)

-- a space and a word
abbrev pub spaced_token : List ℕ → List ℕ
spaced_token token = byte " " ∷ token
