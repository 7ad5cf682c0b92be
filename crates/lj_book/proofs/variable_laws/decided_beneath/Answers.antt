use Rattle.lj_book.proofs.DecidedBeneath.{decided_so, closed_so, open_so}
use Rattle.lj_book.proofs.variable_laws.decided_beneath.Goals as goal

pub returns-clause-decided : goal.returns-clause-decided
returns-clause-decided c = decided_so

pub returns-clause-closed : goal.returns-clause-closed
returns-clause-closed c = closed_so

pub returns-clause-open : goal.returns-clause-open
returns-clause-open c = open_so
