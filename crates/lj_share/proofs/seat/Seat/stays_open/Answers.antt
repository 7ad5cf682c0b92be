use Rattle.std.proofs.Common.{subst}
use Rattle.lj_share.specs.Seats.{SeatValue}
use Rattle.lj_share.specs.inner.Ahead.{IsOpenBy}
use Rattle.lj_share.specs.inner.Seats.{clauses_seen}
use Rattle.lj_share.proofs.seat.Seat.stays_open.Goals as goal

pub returns-clause-open : goal.returns-clause-open
returns-clause-open g c =
    λ is. subst (λ (s : SeatValue). IsOpenBy (clauses_seen s.view) c.args.addition.now) c.self.view_is (c.stays_open_alone.ensures.open is)
