use Rattle.std.proofs.Common.{◌≡◌, ℕ}
use Rattle.std.specs.Prelude.{List, []}
use Rattle.std.specs.FinMap as fin
use Rattle.lj_book.specs.Tables.{joint_of, is_among}
use Rattle.lj_book.specs.Calls.{repeated_after}
use Rattle.lj_book.proofs.taking.repeated_group.Given as goal

abbrev pub invariant-loop-group : goal.invariant-loop-group
invariant-loop-group l =
    (before : List ℕ) × ((q : ℕ) → fin.contains_key l.seen q ≡ is_among before q) × (repeated_after (joint_of l.tables l.seat) before l.group-iterator ≡ repeated_after (joint_of l.tables l.seat) [] l.groups)
