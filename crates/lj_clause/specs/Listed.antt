-- Clause maps that are written as lists, for examples.
use Rattle.std.specs.Prelude.{ℕ, List, map, ℤ}
use Rattle.std.specs.FinMap as fin
use Rattle.lj_clause.specs.LiteralSet.{LiteralSet, from_literals}
use Rattle.lj_clause.specs.ClauseMap.{ClauseMap}

-- a number and the literals of its clause
abbrev pub ListedClause : Type 0
ListedClause = ℕ × List ℤ

-- the number, and the clause of these literals
abbrev pub clause_of : ListedClause → ℕ × LiteralSet
clause_of e = (e.0, from_literals e.1)

-- the clauses under their numbers
abbrev pub listed_clauses : List ListedClause → ClauseMap
listed_clauses es = fin.from_entries (map clause_of es)
