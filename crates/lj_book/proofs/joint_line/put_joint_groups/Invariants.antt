use Rattle.std.proofs.Common.{◌≡◌}
use Rattle.lj_book.specs.Tables.{joint_of}
use Rattle.lj_book.specs.inner.JointLines.{joint_groups_in}
use Rattle.lj_book.specs.inner.Fronts.{with_front}
use Rattle.lj_book.proofs.joint_line.put_joint_groups.Given as goal

abbrev pub invariant-loop-group : goal.invariant-loop-group
invariant-loop-group l = with_front l.joints (joint_groups_in (joint_of l.tables l.seat) l.group-iterator) ≡ joint_groups_in (joint_of l.tables l.seat) l.groups
