use Rattle.lj_share.proofs.BindingLaws.{alike_empty, bound_empty}
use Rattle.lj_share.proofs.bindings.Bindings.new.Goals as goal

pub invariant_of-result : goal.invariant_of-result
invariant_of-result c = alike_empty c.new.result c.new-2.result c.new.ensures c.new-2.ensures

pub returns : goal.returns
returns c = bound_empty (record { clauses = c.new.result; joints = c.new-2.result }) c.new.ensures
