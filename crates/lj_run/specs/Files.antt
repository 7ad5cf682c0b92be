-- What a call leaves of what files tell.
use Rattle.std.specs.Prelude.{◌≡◌, ◌≢◌, ℕ, List}

-- what is told of each path stays
abbrev pub AllStay : {V : Type 0} → (List ℕ → V) → (List ℕ → V) → Type 0
AllStay before after = (any : List ℕ) → after any ≡ before any

-- what is told of each path but this one stays
abbrev pub OthersStay : {V : Type 0} → List ℕ → (List ℕ → V) → (List ℕ → V) → Type 0
OthersStay path before after = (other : List ℕ) → other ≢ path → after other ≡ before other
