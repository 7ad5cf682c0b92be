use Rattle.std.proofs.Common.{◌≡◌, drop}
use Rattle.std.specs.FinMap as fin
use Rattle.lj_book.specs.inner.JointLines.{joints_in}
use Rattle.lj_book.specs.inner.Fronts.{with_front}
use Rattle.lj_book.proofs.joint_line.put_u32s.Given as goal

abbrev pub invariant-loop-own : goal.invariant-loop-own
invariant-loop-own l = with_front l.joints (joints_in (fin.get l.table) (drop l.own-index l.owns)) ≡ joints_in (fin.get l.table) l.fn.owns
