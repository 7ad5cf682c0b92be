use Rattle.lj_book.proofs.GivenLaws.{each_gives}
use Rattle.lj_book.proofs.variable_laws.clauses_give_variables.Goals as goal

pub returns : goal.returns
returns c = each_gives
