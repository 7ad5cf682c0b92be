-- Lists of hints by their index.
use Rattle.std.specs.Prelude.{ℕ, List, map, Option, None, slice_index_or}
use Rattle.lj_clause.specs.LiteralSet.{LiteralSet}
use Rattle.lj_clause.specs.Propagation.{Hint}

-- a hint that names nothing
abbrev pub no_hint : Hint
no_hint = record { number = 0; clause = None }

-- the number of the hint at an index, 0 where there is none
abbrev pub hint_number : List Hint → ℕ → ℕ
hint_number hints index = (slice_index_or hints index no_hint).number

-- the clause that the hint at an index names, if it names one
abbrev pub clause_at : List Hint → ℕ → Option LiteralSet
clause_at hints index = (slice_index_or hints index no_hint).clause

-- the numbers of hints
abbrev pub hint_numbers : List Hint → List ℕ
hint_numbers hints = map (λ h. h.number) hints
