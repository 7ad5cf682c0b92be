use Rattle.std.proofs.Common.{◌≡◌}
use Rattle.std.specs.Prelude.{is_ok}
use Rattle.lj_book.specs.Tables.{joint_of}
use Rattle.lj_book.specs.inner.JointLines.{joints_in}
use Rattle.lj_book.proofs.joint_line.holds_all.Given as goal

-- the numbers so far are held
abbrev pub invariant-loop-own : goal.invariant-loop-own
invariant-loop-own l = is_ok (joints_in (joint_of l.tables l.seat) l.own-iterator) ≡ is_ok (joints_in (joint_of l.tables l.seat) l.fn.numbers)
