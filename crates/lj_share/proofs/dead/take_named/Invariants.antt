use Rattle.std.specs.Prelude.{drop}
use Rattle.lj_share.specs.inner.Dead.{AreDeleted}
use Rattle.lj_share.proofs.dead.take_named.Given as goal

-- the lines that are left name all that are there
abbrev pub invariant-loop-k : goal.invariant-loop-k
invariant-loop-k l = AreDeleted (drop l.k l.fn.run) l.set
