use Rattle.std.proofs.Common.{rules}
use Rattle.lj_share.proofs.DeadLaws.{none_dead, none_flagged}
use Rattle.lj_share.proofs.dead.Dead.put.Goals as goal

pub invariant_of-self-in-Err : goal.invariant_of-self-in-Err
invariant_of-self-in-Err c = (search rules, none_flagged _ c.new.result c.new.ensures)

pub returns-in-Err-clause-err : goal.returns-in-Err-clause-err
returns-in-Err-clause-err c = none_dead c.new.result c.new.ensures
