use Rattle.lj_book.proofs.VariableTables.{no_owners}
use Rattle.lj_book.proofs.variable_table.VariableTable.new.Goals as goal

pub invariant_of-result : goal.invariant_of-result
invariant_of-result c = no_owners c.args.top c.args.seats c.in_ok-empty_maps.field-0.items c.new.result.items c.requires c.in_ok-empty_maps.ensures c.new.ensures.items
