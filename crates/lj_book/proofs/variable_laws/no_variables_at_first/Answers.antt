use Rattle.lj_book.proofs.GivenLaws.{none_are_variables}
use Rattle.lj_book.proofs.variable_laws.no_variables_at_first.Goals as goal

pub returns : goal.returns
returns c = none_are_variables
