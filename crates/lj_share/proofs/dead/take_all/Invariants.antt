use Rattle.lj_share.specs.inner.Dead.{AreWithout}
use Rattle.lj_share.proofs.dead.take_all.Given as goal

abbrev pub invariant-loop-own : goal.invariant-loop-own
invariant-loop-own l = AreWithout l.yielded l.initial.set l.set
