use Rattle.std.proofs.Common.{◌≡◌, ◌+◌}
use Rattle.lj_book.specs.Lookup.{is_part, numbers_where}
use Rattle.lj_book.proofs.Bounds.{numbers_from}
use Rattle.lj_book.proofs.lent_clauses.LentClauses.least_part.Given as goal

abbrev pub invariant-loop-number : goal.invariant-loop-number
invariant-loop-number l = numbers_from (is_part l.wanted) l.self (l.last + 1) l.number ≡ numbers_where (is_part l.wanted) l.self
