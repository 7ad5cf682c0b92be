use Rattle.lj_text.proofs.NeededLaws.{needed_least}
use Rattle.lj_text.proofs.laws.needed_is_least.Goals as goal

pub returns : goal.returns
returns c = needed_least
