use Rattle.std.proofs.Common.{◌≡◌, true, map}
use Rattle.std.specs.Prelude.{IfSome}
use Rattle.lj_clause.specs.Literal.{index_of}
use Rattle.lj_book.specs.Tables.{is_among}
use Rattle.lj_book.proofs.occurrence_lists.OccurrenceLists.shortest_within.Given as goal

abbrev pub invariant-loop-lit : goal.invariant-loop-lit
invariant-loop-lit l = IfSome l.shortest (λ key. is_among (map index_of l.lits) key ≡ true)
