use Rattle.lj_book.proofs.PrivateCandidates.{private_candidates, given_candidates, new_pivots_have_none}
use Rattle.lj_book.proofs.variable_laws.private_candidates_are_seen.Goals as goal

pub returns-clause-private : goal.returns-clause-private
returns-clause-private c = private_candidates

pub returns-clause-given : goal.returns-clause-given
returns-clause-given c = given_candidates

pub returns-clause-new : goal.returns-clause-new
returns-clause-new c = new_pivots_have_none
