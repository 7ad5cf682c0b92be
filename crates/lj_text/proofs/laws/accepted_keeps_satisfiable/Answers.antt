use Rattle.lj_text.proofs.StepLaws.{IsSatisfiable-after}
use Rattle.lj_text.proofs.laws.accepted_keeps_satisfiable.Goals as goal

pub returns : goal.returns
returns c = IsSatisfiable-after
