-- Finite sets of literals: what a clause is, and what a propagation holds to be true.
use Rattle.std.specs.Prelude.{Bool, List, [], ◌∷◌, ℤ, neg_ℤ}
use Rattle.std.specs.FinSet.{FinSet}
use Rattle.std.specs.FinMap as map
use Rattle.lj_clause.specs.Literal.{lit_cmp}

-- a finite set of literals
abbrev pub LiteralSet : Type 0
LiteralSet = FinSet lit_cmp

-- the set without a literal
abbrev pub no_literals : LiteralSet
no_literals = map.empty

-- whether the literal is in the set
abbrev pub holds : LiteralSet → ℤ → Bool
holds s l = map.contains_key s l

-- the set and one literal more
abbrev pub with_literal : LiteralSet → ℤ → LiteralSet
with_literal s l = map.insert s l tt

-- the literals of the set, each once, in their order
abbrev pub literals : LiteralSet → List ℤ
literals s = map.keys s

-- the set of the literals of a list, whatever their order and repeats
abbrev pub from_literals : List ℤ → LiteralSet
from_literals [] = no_literals
from_literals (l ∷ ls) = with_literal (from_literals ls) l

-- the set and the negations of these literals
abbrev pub with_negations : LiteralSet → List ℤ → LiteralSet
with_negations s [] = s
with_negations s (l ∷ ls) = with_literal (with_negations s ls) (neg_ℤ l)

-- the negations of the literals of a clause
abbrev pub negations : LiteralSet → LiteralSet
negations c = with_negations no_literals (literals c)
