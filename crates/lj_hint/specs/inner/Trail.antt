-- A set of literals as the list of them in which they came in.
use Rattle.std.specs.Prelude.{◌≡◌, List, [], ◌∷◌, ◌++◌, ℤ, if◌then◌else◌}
use Rattle.lj_clause.specs.LiteralSet.{holds, from_literals}

-- the trail and one literal more, where it isn't there already
abbrev pub with_assigned : List ℤ → ℤ → List ℤ
with_assigned trail l = if holds (from_literals trail) l then trail else trail ++ l ∷ []

-- the second trail begins with the first
abbrev pub Extends : List ℤ → List ℤ → Type 0
Extends old new = (more : List ℤ) × (new ≡ old ++ more)
