use Rattle.std.proofs.Common.{◌<◌, arith}
use Rattle.lj_share.proofs.RunLaws.{run_done}
use Rattle.lj_share.proofs.shared.Shared.enter_run.Goals as goal

pub invariant_of-seat-2 : goal.invariant_of-seat-2
invariant_of-seat-2 g c =
    let f = g.L.BookId.formula in
    let v = c.seat.inside.account.view in
    let begun = c.begin_run-count.ensures in
    let count = c.begin_run-count.result.0 in
    let some : 0 < count = let no = c.if-count-eq0.false in omega (arith, no) in
    let inside = c.enter_run-entered.ensures in
    run_done f v c.enter_run-entered.new.account.view c.args.lines.now c.enter_run-entered.new.joints count c.enter_run-entered.result.0 c.begin_run-count.new.kept c.finish_run.new.kept c.take_back_run.new.kept (begun.here some) begun.there begun.begun inside.within inside.view (c.finish_run.ensures f v) (c.take_back_run.ensures f)
