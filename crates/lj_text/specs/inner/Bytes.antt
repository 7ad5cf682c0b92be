-- What a line begins with.
use Rattle.std.specs.Prelude.{ℕ, Bool, false, List, [], ◌∷◌}
use Rattle.lj_text.specs.Bytes.{is_blank}

-- a blank stands first
abbrev pub begins_blank : List ℕ → Bool
begins_blank [] = false
begins_blank (b ∷ bs) = is_blank b
