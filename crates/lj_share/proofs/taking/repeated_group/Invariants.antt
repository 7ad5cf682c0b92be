use Rattle.std.proofs.Common.{◌≡◌, ℕ}
use Rattle.std.specs.Prelude.{List, []}
use Rattle.std.specs.FinMap as fin
use Rattle.lj_book.specs.Tables.{is_among}
use Rattle.lj_book.specs.Calls.{repeated_after}
use Rattle.lj_share.specs.inner.Seats.{joint_by, own_pair}
use Rattle.lj_share.proofs.taking.repeated_group.Given as goal

abbrev pub invariant-loop-group : goal.invariant-loop-group
invariant-loop-group l =
    (before : List ℕ) × ((q : ℕ) → fin.contains_key l.seen q ≡ is_among before q) × (repeated_after (joint_by (own_pair l.formula l.own)) before l.group-iterator ≡ repeated_after (joint_by (own_pair l.formula l.own)) [] l.groups)
