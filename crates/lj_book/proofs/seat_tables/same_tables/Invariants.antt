use Rattle.std.proofs.Common.{◌≡◌}
use Rattle.std.specs.Prelude.{replicate, Some}
use Rattle.lj_book.specs.Tables.{up_to}
use Rattle.lj_book.proofs.seat_tables.same_tables.Given as goal

abbrev pub invariant-loop-seat : goal.invariant-loop-seat
invariant-loop-seat l = l.tables.items ≡ replicate l._seat (Some (up_to l.clauses))
