use Rattle.std.proofs.Common.{◌≡◌, ◌≤◌, ◌+◌, ℕ, take}
use Rattle.std.specs.Prelude.{Some}
use Rattle.lj_book.specs.Tables.{without_keys, keys_lost}
use Rattle.lj_book.specs.inner.Holders.{count_in, count_at}
use Rattle.lj_book.proofs.seat_tables.unbind_all_in.Given as goal

abbrev pub invariant-loop-own : goal.invariant-loop-own
invariant-loop-own l = record {
  table : l.table ≡ without_keys (take l.own-index l.owns) l.fn.table;
  count : l.count ≡ keys_lost (take l.own-index l.owns) (Some l.fn.table);
  few : l.count ≤ l.own-index;
  holders : (joint : ℕ) → count_at l.holders joint + count_in (Some l.fn.table) joint ≡ count_at l.fn.holders joint + count_in (Some l.table) joint;
}
