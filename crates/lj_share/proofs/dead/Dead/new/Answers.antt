use Rattle.std.proofs.Common.{rules}
use Rattle.lj_share.proofs.DeadLaws.{none_dead, none_flagged}
use Rattle.lj_share.proofs.dead.Dead.new.Goals as goal

pub invariant_of-result : goal.invariant_of-result
invariant_of-result c = (search rules, none_flagged _ c.new.result c.new.ensures)

pub returns : goal.returns
returns c = none_dead c.new.result c.new.ensures
