use Rattle.std.proofs.Common.{◌≡◌, ◌+◌, ◌++◌}
use Rattle.lj_clause.specs.LiteralSet.{holds}
use Rattle.lj_book.specs.Lookup.{numbers_holding}
use Rattle.lj_book.proofs.Bounds.{numbers_from}
use Rattle.lj_book.proofs.lent_clauses.LentClauses.numbers_holding.Given as goal

abbrev pub invariant-loop-number : goal.invariant-loop-number
invariant-loop-number l = l.numbers.items ++ numbers_from (λ d. holds d l.lit) l.self (l.last + 1) l.number ≡ numbers_holding l.self l.lit
