use Rattle.std.proofs.Common.{sym, ◌∙◌}
use Rattle.lj_book.proofs.WithinTop.{within_settled}
use Rattle.lj_book.proofs.variable_table.VariableTable.is_settled.Goals as goal

pub returns-then-is_within-clause-settled : goal.returns-then-is_within-clause-settled
returns-then-is_within-clause-settled c = λ yes.
    within_settled c.args.self.now.top c.args.self.now.variables c.args.seat c.is_within.ensures.variables c.args.clause.now (sym c.is_within.ensures.within ∙ c.if-is_within.true)
