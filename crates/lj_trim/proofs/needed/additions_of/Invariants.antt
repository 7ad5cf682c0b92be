use Rattle.std.proofs.Common.{◌≡◌, take, map}
use Rattle.lj_text.specs.Needed.{additions}
use Rattle.lj_trim.specs.inner.Front.{lent_addition}
use Rattle.lj_trim.proofs.needed.additions_of.Given as goal

-- the additions among the first steps
abbrev pub invariant-loop-step : goal.invariant-loop-step
invariant-loop-step l = map lent_addition l.found.items ≡ additions (take l.step-index l.steps)
