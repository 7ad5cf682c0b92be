use Rattle.lj_book.proofs.NamedSoloSteps.{free_named}
use Rattle.lj_book.proofs.variable_laws.free_alone.Goals as goal

pub returns : goal.returns
returns c = free_named
