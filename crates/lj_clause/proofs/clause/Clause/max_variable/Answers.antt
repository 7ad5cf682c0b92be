use Rattle.lj_clause.proofs.Greatest.{greatest}
use Rattle.lj_clause.proofs.clause.Clause.max_variable.Goals as goal

pub returns-in-Some : goal.returns-in-Some
returns-in-Some c = greatest c.args.self.now c.lits.result.now c.in-Some.lit.now c.variable.result c.lits.ensures c.in-Some.ensures.value c.variable.ensures.variable
