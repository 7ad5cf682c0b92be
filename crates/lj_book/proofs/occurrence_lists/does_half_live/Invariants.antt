use Rattle.std.proofs.Common.{◌≤◌, length}
use Rattle.lj_book.proofs.occurrence_lists.does_half_live.Given as goal

-- the links that were followed are the last ones
abbrev pub invariant-loop-at : goal.invariant-loop-at
invariant-loop-at l = record {
  there : l.at ≤ length l.links;
}

abbrev pub decreases-loop-at : goal.decreases-loop-at
decreases-loop-at l = l.at
