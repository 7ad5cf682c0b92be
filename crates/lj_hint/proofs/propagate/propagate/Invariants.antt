use Rattle.lj_hint.proofs.Propagations.{HasPropagated}
use Rattle.lj_hint.proofs.propagate.propagate.Given as goal

abbrev pub invariant-loop-index : goal.invariant-loop-index
invariant-loop-index g l = HasPropagated l.initial.assigned l.assigned (g.H.HintList.hints l.hints) l.index
