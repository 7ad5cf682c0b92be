use Rattle.lj_clause.proofs.Turns.{even_turned, odd_turned}
use Rattle.lj_clause.proofs.lit.turned.Goals as goal

pub returns-clause-even : goal.returns-clause-even
returns-clause-even c = even_turned c.args.code

pub returns-clause-odd : goal.returns-clause-odd
returns-clause-odd c = odd_turned c.args.code
