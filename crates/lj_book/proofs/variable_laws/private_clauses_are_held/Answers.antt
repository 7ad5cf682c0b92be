use Rattle.lj_book.proofs.PrivateClauses.{private_held}
use Rattle.lj_book.proofs.variable_laws.private_clauses_are_held.Goals as goal

pub returns : goal.returns
returns c = private_held
