use Rattle.lj_book.proofs.SeenClauses.{taken_hints_seen}
use Rattle.lj_book.proofs.PrivateCandidates.{private_rat}
use Rattle.lj_book.proofs.PrivateRefusals.{private_refusals}
use Rattle.lj_book.proofs.variable_laws.private_tests_are_alone.Goals as goal

pub returns-clause-alike : goal.returns-clause-alike
returns-clause-alike c = private_rat

pub returns-clause-seen : goal.returns-clause-seen
returns-clause-seen c = taken_hints_seen

pub returns-clause-refused : goal.returns-clause-refused
returns-clause-refused c = private_refusals
