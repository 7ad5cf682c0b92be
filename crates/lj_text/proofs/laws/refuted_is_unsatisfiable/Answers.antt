use Rattle.lj_text.proofs.StepLaws.{unsatisfiable-refutes}
use Rattle.lj_text.proofs.laws.refuted_is_unsatisfiable.Goals as goal

pub returns : goal.returns
returns c = unsatisfiable-refutes
