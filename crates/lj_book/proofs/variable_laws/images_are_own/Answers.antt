use Rattle.lj_book.proofs.GivenLaws.{images_are_own, others_own_none}
use Rattle.lj_book.proofs.variable_laws.images_are_own.Goals as goal

pub returns-clause-own : goal.returns-clause-own
returns-clause-own c = images_are_own

pub returns-clause-others : goal.returns-clause-others
returns-clause-others c = others_own_none
