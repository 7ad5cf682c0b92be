use Rattle.std.proofs.Common.{◌≤◌, drop, map, length, vec_len}
use Rattle.lj_trim.specs.inner.Marks.{Passed}
use Rattle.lj_trim.specs.inner.Front.{lent_addition}
use Rattle.lj_trim.proofs.needed.pass.Given as goal

-- the last additions are done
abbrev pub invariant-loop-left : goal.invariant-loop-left
invariant-loop-left l = record {
  within : l.left ≤ vec_len l.begun;
  inside : l.left ≤ length l.begun.items;
  passed : Passed l.fn.marks l.marks (drop l.left (map lent_addition l.begun.items)) (map lent_addition l.still.items);
}

abbrev pub decreases-loop-left : goal.decreases-loop-left
decreases-loop-left l = l.left
