use Rattle.std.proofs.Common.{◌≡◌, ◌+◌, ◌-◌}
use Rattle.lj_book.specs.inner.VariableTables.{variables_at, variables_before}
use Rattle.lj_book.proofs.variable_table.VariableTable.take_back.Given as goal

abbrev pub invariant-loop-joint : goal.invariant-loop-joint
invariant-loop-joint l = record {
  end : l._joint-end ≡ l.fn.self.variables.next;
  is : l.self ≡ variables_at l.fn.self.top (variables_before (l._joint-end + l.next - l._joint) l.fn.self.variables);
}
