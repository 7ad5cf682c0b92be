use Rattle.lj_text.proofs.ReadAgainLemmas.{read-again}
use Rattle.lj_text.proofs.laws.written_is_read_again.Goals as goal

pub returns : goal.returns
returns c = read-again
