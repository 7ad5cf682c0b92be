use Rattle.lj_clause.proofs.RatLaws.{IsSatisfiable-rat}
use Rattle.lj_clause.proofs.laws.rat_keeps_satisfiable.Goals as goal

pub returns : goal.returns
returns c = IsSatisfiable-rat
