use Rattle.lj_text.proofs.StepLaws.{recorded_keeps}
use Rattle.lj_text.proofs.laws.recorded_loses_nothing.Goals as goal

pub returns : goal.returns
returns c = recorded_keeps
