use Rattle.lj_share.proofs.Leaving.{here_while_none}
use Rattle.lj_share.proofs.laws.here_until_left.Goals as goal

pub returns : goal.returns
returns c = here_while_none
