use Rattle.std.proofs.Common.{subst}
use Rattle.lj_book.specs.inner.FirstUses.{IsSince}
use Rattle.lj_book.specs.inner.Ranges.{Recorded, stored}
use Rattle.lj_book.proofs.clause_log.ClauseLog.recent.Goals as goal

pub returns : goal.returns
returns c =
    subst (λ (r : Recorded). IsSince r.live c.args.lit c.in_ok-from.from) c.self.view_is
    (c.in_ok-from.ensures (stored c.self.inside.history.lits c.self.inside.ranges) c.self.inside.last c.self.invariant.used)
