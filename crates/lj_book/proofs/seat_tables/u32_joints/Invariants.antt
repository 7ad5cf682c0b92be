use Rattle.std.proofs.Common.{◌≡◌, ℕ, drop}
use Rattle.std.specs.Prelude.{filter_map, ◌||◌}
use Rattle.std.specs.FinMap as fin
use Rattle.lj_book.specs.Tables.{is_among}
use Rattle.lj_book.proofs.seat_tables.u32_joints.Given as goal

-- those that are found, and those of the numbers that are left
abbrev pub invariant-loop-own : goal.invariant-loop-own
invariant-loop-own l = (q : ℕ) → (is_among l.joints.items q || is_among (filter_map (fin.get l.table) (drop l.own-index l.owns)) q) ≡ is_among (filter_map (fin.get l.table) l.owns) q
