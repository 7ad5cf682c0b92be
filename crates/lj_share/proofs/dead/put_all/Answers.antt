use Rattle.std.proofs.Common.{◌∙◌}
use Rattle.std.proofs.lemmas.List.{length-set}
use Rattle.lj_share.proofs.DeadLaws.{with_more, flagged_more}
use Rattle.lj_share.proofs.dead.put_all.Goals as goal

pub loop-own-preserved : goal.loop-own-preserved
loop-own-preserved c = (
  with_more c.loop-own.yielded c.in-Some.own c.args.set.now c.loop-own.set c.insert.new.self c.loop-own.invariant.0 c.in_ok-insert.ensures.ok,
  flagged_more c.loop-own.flags.items c.in-Some.own c.flag_of.result c.loop-own.set c.insert.new.self c.flag_of.ensures c.loop-own.invariant.2 c.loop-own.invariant.1 c.in_ok-insert.ensures.ok,
  length-set c.loop-own.flags.items c.flag_of.result _ ∙ c.loop-own.invariant.2,
)
