-- The hints of a case, as a propagation reads them.
use Rattle.std.specs.Prelude.{ℕ, List, map, Some}
use Rattle.lj_clause.specs.Propagation.{Hint}
use Rattle.lj_hint.specs.declared.pair.Pair.{Pair}

-- the hints of these pairs: each names its own clause
abbrev pub named_hints : List Pair → List Hint
named_hints pairs = map (λ p. record { number = p.joint; clause = Some p.clause }) pairs

-- the numbers of these pairs
abbrev pub numbers : List Pair → List ℕ
numbers pairs = map (λ p. p.joint) pairs
