use Rattle.lj_book.proofs.ViewLaws.{holds_the_formula}
use Rattle.lj_book.proofs.NamedAlone.{seats_hold_the_formula}
use Rattle.lj_book.proofs.variable_laws.seats_hold_the_formula.Goals as goal

pub returns-clause-formula : goal.returns-clause-formula
returns-clause-formula c = seats_hold_the_formula

pub returns-clause-clauses : goal.returns-clause-clauses
returns-clause-clauses c = holds_the_formula
