use Rattle.std.proofs.Common.{◌≡◌, take, map}
use Rattle.std.specs.Prelude.{filter_map}
use Rattle.lj_trim.specs.Trimmed.{step_of}
use Rattle.lj_trim.specs.inner.Trimmed.{keeps, trimmed_by}
use Rattle.lj_trim.proofs.trimming.trimmed_steps.Given as goal

-- the first steps are done
abbrev pub invariant-loop-step : goal.invariant-loop-step
invariant-loop-step l = map step_of l.kept.items ≡ filter_map (trimmed_by (keeps l.clauses l.marks)) (take l.step-index l.steps)
