use Rattle.std.proofs.Common.{ap, sym, ◌∙◌, subst}
use Rattle.lj_clause.specs.ClauseMap.{names_up_to}
use Rattle.lj_book.specs.Variables.{IsVariables}
use Rattle.lj_book.specs.inner.VariableTables.{TopVariables}
use Rattle.lj_book.proofs.VariableTables.{owners-IsVariables}
use Rattle.lj_book.proofs.variable_table.VariableTable.is_within.Goals as goal

pub returns-clause-within : goal.returns-clause-within
returns-clause-within c = sym (c.max_variable.ensures c.self.inside.top) ∙ ap (λ (t : TopVariables). names_up_to t.top c.args.clause.now) c.self.view_is

pub returns-clause-variables : goal.returns-clause-variables
returns-clause-variables c = subst (λ (t : TopVariables). IsVariables t.top t.variables) c.self.view_is (owners-IsVariables c.self.inside.top c.self.inside.seats.items c.self.inside.owners.items c.self.invariant)
