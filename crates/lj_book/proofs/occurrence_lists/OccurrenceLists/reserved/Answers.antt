use Rattle.lj_book.proofs.Chains.{no_chains, none_chained}
use Rattle.lj_book.proofs.occurrence_lists.OccurrenceLists.reserved.Goals as goal

pub invariant_of-result : goal.invariant_of-result
invariant_of-result c = no_chains c.in_ok-with_capacity.field-0.items c.new.result c.in_ok-with_capacity.ensures.items c.new.ensures

pub returns : goal.returns
returns c = none_chained c.in_ok-with_capacity.field-0.items c.new.result c.new.ensures
