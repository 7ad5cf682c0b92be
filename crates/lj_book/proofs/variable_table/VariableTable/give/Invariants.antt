use Rattle.std.proofs.Common.{◌≡◌, ◌+◌, ◌≤◌, drop}
use Rattle.std.specs.Prelude.{length, map}
use Rattle.lj_clause.specs.declared.lit.TheConstants.{MAX_VARIABLE}
use Rattle.lj_clause.specs.Literal.{variable_of}
use Rattle.lj_book.specs.Variables.{with_names, given}
use Rattle.lj_book.specs.inner.VariableTables.{variables_before}
use Rattle.lj_book.proofs.variable_table.VariableTable.give.Given as goal

abbrev pub invariant-loop-lit : goal.invariant-loop-lit
invariant-loop-lit l = record {
  top : l.self.top ≡ l.fn.self.top;
  seats : length l.self.variables.of_seats ≡ length l.fn.self.variables.of_seats;
  low : l.fn.self.variables.next ≤ l.self.variables.next;
  few : l.self.variables.next ≤ MAX_VARIABLE + 1;
  back : variables_before l.fn.self.variables.next l.self.variables ≡ l.fn.self.variables;
  rest : with_names l.fn.self.top l.self.variables l.seat (map variable_of (drop l.lit-index l.lit-items)) ≡ given l.fn.self.top l.fn.self.variables l.seat l.clause;
}
