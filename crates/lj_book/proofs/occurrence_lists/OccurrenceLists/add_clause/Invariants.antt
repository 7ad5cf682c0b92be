use Rattle.std.proofs.Common.{◌≡◌, ℕ, take, map}
use Rattle.lj_clause.specs.Literal.{index_of}
use Rattle.lj_book.specs.Tables.{is_among}
use Rattle.lj_book.specs.inner.Occurrences.{list_at, put_if}
use Rattle.lj_book.proofs.occurrence_lists.OccurrenceLists.add_clause.Given as goal

abbrev pub invariant-loop-lit : goal.invariant-loop-lit
invariant-loop-lit l = (k : ℕ) → list_at l.self k ≡ put_if (is_among (map index_of (take l.lit-index l.lits)) k) (list_at l.fn.self k) l.number
