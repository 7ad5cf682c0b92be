use Rattle.std.proofs.Common.{subst}
use Rattle.lj_book.specs.Variables.{IsVariables}
use Rattle.lj_book.specs.inner.VariableTables.{TopVariables}
use Rattle.lj_book.proofs.VariableTables.{owners-IsVariables}
use Rattle.lj_book.proofs.variable_table.VariableTable.next.Goals as goal

pub returns-clause-variables : goal.returns-clause-variables
returns-clause-variables c = subst (λ (t : TopVariables). IsVariables t.top t.variables) c.self.view_is (owners-IsVariables c.self.inside.top c.self.inside.seats.items c.self.inside.owners.items c.self.invariant)
