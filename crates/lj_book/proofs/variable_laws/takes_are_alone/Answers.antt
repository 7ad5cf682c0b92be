use Rattle.lj_book.proofs.NamedTakes.{takes_commute, named_takes_alone}
use Rattle.lj_book.proofs.variable_laws.takes_are_alone.Goals as goal

pub returns-clause-commute : goal.returns-clause-commute
returns-clause-commute c = takes_commute

pub returns-clause-alone : goal.returns-clause-alone
returns-clause-alone c = named_takes_alone
