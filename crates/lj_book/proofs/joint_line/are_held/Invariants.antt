use Rattle.std.proofs.Common.{◌≡◌}
use Rattle.std.specs.Prelude.{is_ok}
use Rattle.lj_book.specs.Tables.{joint_of}
use Rattle.lj_book.specs.inner.JointLines.{joint_groups_in}
use Rattle.lj_book.proofs.joint_line.are_held.Given as goal

-- the numbers of the groups so far are held
abbrev pub invariant-loop-group : goal.invariant-loop-group
invariant-loop-group l = is_ok (joint_groups_in (joint_of l.tables l.seat) l.group-iterator) ≡ is_ok (joint_groups_in (joint_of l.tables l.seat) l.groups)
