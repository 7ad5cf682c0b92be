use Rattle.std.proofs.Common.{◌≡◌}
use Rattle.std.specs.FinMap as fin
use Rattle.lj_book.specs.inner.JointLines.{joints_in}
use Rattle.lj_book.specs.inner.Fronts.{with_front}
use Rattle.lj_book.proofs.joint_line.put_each.Given as goal

abbrev pub invariant-loop-own : goal.invariant-loop-own
invariant-loop-own l = with_front l.joints (joints_in (fin.get l.table) l.own-iterator) ≡ joints_in (fin.get l.table) l.fn.numbers
