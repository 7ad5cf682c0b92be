use Rattle.std.proofs.Common.{subst, sym}
use Rattle.lj_book.specs.Named.{NamedState}
use Rattle.lj_share.specs.Seats.{AreSeatsIn}
use Rattle.lj_share.proofs.shared.Shared.close.Goals as goal

pub returns-clause-seats : goal.returns-clause-seats
returns-clause-seats g c = subst (λ (s : NamedState). AreSeatsIn s c.args.seats.items) (sym c.new.ensures) c.gathered-all.ensures.seats
