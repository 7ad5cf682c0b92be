use Rattle.std.proofs.Common.{take}
use Rattle.lj_text.specs.Needed.{empty_numbers}
use Rattle.lj_trim.specs.inner.Marks.{Marked}
use Rattle.lj_trim.proofs.needed.mark_empty.Given as goal

-- the first steps are done
abbrev pub invariant-loop-step : goal.invariant-loop-step
invariant-loop-step l = Marked l.fn.marks l.marks (empty_numbers (take l.step-index l.steps))
