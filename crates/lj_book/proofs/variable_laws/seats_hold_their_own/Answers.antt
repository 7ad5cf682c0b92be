use Rattle.lj_book.proofs.OwnHoldings.{seats_hold_own, views_come_back}
use Rattle.lj_book.proofs.variable_laws.seats_hold_their_own.Goals as goal

pub returns-clause-own : goal.returns-clause-own
returns-clause-own c = seats_hold_own

pub returns-clause-back : goal.returns-clause-back
returns-clause-back c = views_come_back
