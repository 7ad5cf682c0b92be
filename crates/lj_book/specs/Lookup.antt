-- Which numbers of a clause map have a clause of some kind.
use Rattle.std.specs.Prelude.{ℕ, ℤ, Bool, false, ◌&&◌, List, map, filter, Option, Some, None, slice_get}
use Rattle.std.specs.List.{list_all}
use Rattle.std.specs.FinMap as fin
use Rattle.lj_clause.specs.LiteralSet.{LiteralSet, holds, literals}
use Rattle.lj_clause.specs.ClauseMap.{ClauseMap}

-- whether each literal of the second clause is one of the first
abbrev pub is_part : LiteralSet → LiteralSet → Bool
is_part c d = list_all (holds c) (literals d)

-- whether the two clauses are the same set
abbrev pub is_same : LiteralSet → LiteralSet → Bool
is_same c d = is_part d c && is_part c d

-- whether there is a clause, and it is this one
abbrev pub is_clause : LiteralSet → Option LiteralSet → Bool
is_clause c None = false
is_clause c (Some d) = is_same c d

-- the numbers whose clause passes the test, rising
abbrev pub numbers_where : (LiteralSet → Bool) → ClauseMap → List ℕ
numbers_where test p = map (λ e. e.0) (filter (λ e. test e.1) (fin.entries p))

-- the numbers whose clause holds the literal, rising
abbrev pub numbers_holding : ClauseMap → ℤ → List ℕ
numbers_holding p l = numbers_where (λ c. holds c l) p

-- the least number whose clause is exactly this one
abbrev pub least_number : ClauseMap → LiteralSet → Option ℕ
least_number p c = slice_get (numbers_where (is_same c) p) 0

-- the least number whose clause is a part of this one
abbrev pub least_part : ClauseMap → LiteralSet → Option ℕ
least_part p c = slice_get (numbers_where (is_part c) p) 0
