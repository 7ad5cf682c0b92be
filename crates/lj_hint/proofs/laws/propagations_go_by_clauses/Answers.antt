use Rattle.lj_hint.proofs.Renamings.{propagations_by_clauses, open_by_clauses}
use Rattle.lj_hint.proofs.laws.propagations_go_by_clauses.Goals as goal

pub returns-clause-ending : goal.returns-clause-ending
returns-clause-ending c = propagations_by_clauses

pub returns-clause-open : goal.returns-clause-open
returns-clause-open c = open_by_clauses
