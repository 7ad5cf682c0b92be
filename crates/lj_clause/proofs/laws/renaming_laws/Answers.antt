use Rattle.lj_clause.proofs.Renaming.{renaming_laws, naming_laws, map_image_laws}
use Rattle.lj_clause.proofs.laws.renaming_laws.Goals as goal

pub returns-clause-clauses : goal.returns-clause-clauses
returns-clause-clauses c = renaming_laws

pub returns-clause-growing : goal.returns-clause-growing
returns-clause-growing c = naming_laws

pub returns-clause-maps : goal.returns-clause-maps
returns-clause-maps c = map_image_laws
