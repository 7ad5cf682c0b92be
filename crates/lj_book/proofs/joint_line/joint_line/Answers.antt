use Rattle.std.proofs.Common.{◌≡◌, sym, ◌∙◌, true, [], Ok}
use Rattle.lj_book.specs.Tables.{joint_of}
use Rattle.lj_book.specs.inner.JointLines.{joint_groups_in, parts_with, rising_from}
use Rattle.lj_book.proofs.RisingGroups.{none_repeated}
use Rattle.lj_book.proofs.joint_line.joint_line.Goals as goal

pub returns-then-are_rising : goal.returns-then-are_rising
returns-then-are_rising c =
    let joint = joint_of c.args.tables.now c.args.seat in
    let groups : joint_groups_in joint c.args.addition.now.groups ≡ Ok c.put_joint_groups.new.joints = c.in_default-put_joint_groups.ensures in
    let rises : rising_from 0 c.put_joint_groups.new.joints ≡ true = sym c.are_rising-2.ensures ∙ c.if-are_rising.true in
    let none = none_repeated joint [] 0 c.args.addition.now.groups c.put_joint_groups.new.joints (λ q is. cc) groups rises in
    let hints = c.in_default.ensures in
    λ i. parts_with (none i) (hints i) (groups i)
