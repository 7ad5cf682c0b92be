use Rattle.lj_book.proofs.NamedLaws.{beneath_is_reached, named_keep_rules}
use Rattle.lj_book.proofs.variable_laws.beneath_is_reached.Goals as goal

pub returns-clause-reached : goal.returns-clause-reached
returns-clause-reached c = beneath_is_reached

pub returns-clause-rules : goal.returns-clause-rules
returns-clause-rules c = named_keep_rules
