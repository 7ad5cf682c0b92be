use Rattle.lj_clause.proofs.PropagationLaws.{satisfies-is_rup}
use Rattle.lj_clause.proofs.laws.closed_propagation_implies.Goals as goal

pub returns : goal.returns
returns c = satisfies-is_rup
