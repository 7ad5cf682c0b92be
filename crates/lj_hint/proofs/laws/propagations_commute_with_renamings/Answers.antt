use Rattle.lj_hint.proofs.Images.{tests_commute, ending_image}
use Rattle.lj_hint.proofs.laws.propagations_commute_with_renamings.Goals as goal

pub returns-clause-tests : goal.returns-clause-tests
returns-clause-tests c = tests_commute

pub returns-clause-ending : goal.returns-clause-ending
returns-clause-ending c = ending_image
