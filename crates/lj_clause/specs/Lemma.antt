-- Lemmas: a clause with a pivot from it, none where it is empty.
use Rattle.std.specs.Prelude.{◌≡◌, List, ℤ, Option, true, MatchOption, slice_get}
use Rattle.lj_clause.specs.LiteralSet.{LiteralSet, holds, no_literals, from_literals}

-- A clause and its pivot.
pub record LemmaValue : Type 0 where
  pub clause : LiteralSet
  pub pivot : Option ℤ

-- the lemma of literals as they are written: the first is the pivot
abbrev pub lemma_of : List ℤ → LemmaValue
lemma_of ls = record { clause = from_literals ls; pivot = slice_get ls 0 }

-- the pivot is a literal of the clause, and there is none where the clause is empty
abbrev pub IsLemma : LemmaValue → Type 0
IsLemma lemma = MatchOption lemma.pivot (lemma.clause ≡ no_literals)
    (λ p. holds lemma.clause p ≡ true)
