use Rattle.std.proofs.Common.{◌≡◌}
use Rattle.lj_book.specs.inner.JointLines.{rising_from}
use Rattle.lj_book.proofs.joint_line.are_rising.Given as goal

abbrev pub invariant-loop-group : goal.invariant-loop-group
invariant-loop-group l = rising_from l.last l.group-iterator ≡ rising_from 0 l.groups
