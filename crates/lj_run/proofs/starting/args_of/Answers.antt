use Rattle.lj_run.proofs.StartLemmas.{without_first}
use Rattle.lj_run.proofs.starting.args_of.Goals as goal

pub returns : goal.returns
returns c = without_first c.args.arguments.now c.min.result c.min.ensures
