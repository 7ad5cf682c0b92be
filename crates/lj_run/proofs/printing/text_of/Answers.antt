use Rattle.lj_run.proofs.TextLemmas.{lines_more}
use Rattle.lj_run.proofs.printing.text_of.Goals as goal

pub loop-seat-preserved : goal.loop-seat-preserved
loop-seat-preserved g c =
    lines_more c.deref-report-items.result.now c.loop-seat.seat-counter c.report-item.result _ _ c.loop-seat-test.true c.report-item.is c.loop-seat.invariant
    c.in_ok-writeln.ensures.bytes
