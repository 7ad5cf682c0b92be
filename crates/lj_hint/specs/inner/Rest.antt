-- What is left of a clause, seen up to two literals.
use Rattle.std.specs.Prelude.{List, [], ◌∷◌, ℤ}
use Rattle.lj_hint.specs.declared.propagate.Rest.{Rest}
use Rattle.lj_hint.specs.declared.propagate.Rest.TheVariants.{Nothing, One, More}

-- nothing, the one literal, or that there are more
abbrev pub rest_seen : List ℤ → Rest
rest_seen [] = Nothing
rest_seen (l ∷ []) = One l
rest_seen (l ∷ m ∷ ls) = More
