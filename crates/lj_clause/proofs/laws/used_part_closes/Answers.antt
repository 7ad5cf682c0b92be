use Rattle.lj_clause.proofs.PropagationLaws.{used-first, propagate-used}
use Rattle.lj_clause.proofs.laws.used_part_closes.Goals as goal

pub returns : goal.returns
returns c p s numbers used e = (used-first p s numbers used e, propagate-used p s numbers used e)
