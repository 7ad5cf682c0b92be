use Rattle.lj_text.proofs.StepLaws.{IsSatisfiable-replay}
use Rattle.lj_text.proofs.laws.replay_keeps_satisfiable.Goals as goal

pub returns : goal.returns
returns c = IsSatisfiable-replay
