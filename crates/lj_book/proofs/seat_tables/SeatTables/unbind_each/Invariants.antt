use Rattle.std.proofs.Common.{◌≡◌, ◌≤◌, take}
use Rattle.lj_book.specs.Tables.{with_table, without_keys, table_of, keys_lost}
use Rattle.lj_book.proofs.seat_tables.SeatTables.unbind_each.Given as goal

abbrev pub invariant-loop-index : goal.invariant-loop-index
invariant-loop-index l = record {
  removed : l.self ≡ with_table (without_keys (take l.index l.numbers)) l.fn.self l.seat;
  count : l.count ≡ keys_lost (take l.index l.numbers) (table_of l.fn.self l.seat);
  few : l.count ≤ l.index;
}
