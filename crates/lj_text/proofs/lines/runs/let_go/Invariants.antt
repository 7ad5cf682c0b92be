use Rattle.lj_text.specs.inner.LinesBuffered.{IsLetGo}
use Rattle.lj_text.proofs.lines.runs.let_go.Given as goal

abbrev pub invariant-loop-run : goal.invariant-loop-run
invariant-loop-run l = IsLetGo l.fn.runs.items l.runs.items l.fn.position l.left

abbrev pub decreases-loop-run : goal.decreases-loop-run
decreases-loop-run l = l.runs.len
