use Rattle.std.proofs.Common.{◌≡◌, true, take}
use Rattle.lj_book.specs.Variables.{renaming_of}
use Rattle.lj_clause.specs.Literal.{variable_of}
use Rattle.lj_clause.specs.Renaming.{has_name, renamed}
use Rattle.std.specs.Prelude.{◌==◌}
use Rattle.std.specs.List.{list_all}
use Rattle.lj_book.proofs.variable_table.VariableTable.is_settled.Given as goal

abbrev pub invariant-loop-lit : goal.invariant-loop-lit
invariant-loop-lit l = (list_all (λ k. has_name l.self.top (renaming_of l.self.variables l.seat) (variable_of k)) (take l.lit-index l.lit-items) ≡ true)
    × (list_all (λ k. renamed (renaming_of l.self.variables l.seat) (variable_of k) == variable_of k) (take l.lit-index l.lit-items) ≡ true)
