use Rattle.lj_book.proofs.NamedAlone.{decided_alone}
use Rattle.lj_book.proofs.variable_laws.decided_alone.Goals as goal

pub returns : goal.returns
returns c = decided_alone
