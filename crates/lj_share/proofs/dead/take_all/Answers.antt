use Rattle.lj_share.proofs.DeadLaws.{without_more}
use Rattle.lj_share.proofs.dead.take_all.Goals as goal

pub loop-own-preserved : goal.loop-own-preserved
loop-own-preserved c = without_more c.loop-own.yielded c.in-Some.own c.args.set.now c.loop-own.set c.remove.new.self c.loop-own.invariant c.remove.ensures.removed
