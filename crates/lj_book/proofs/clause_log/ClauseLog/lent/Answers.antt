use Rattle.std.proofs.Common.{sym, subst}
use Rattle.std.specs.Prelude.{ℤ, List}
use Rattle.lj_book.specs.inner.Ranges.{AreRanges}
use Rattle.lj_book.proofs.clause_log.ClauseLog.lent.Goals as goal

pub new-requires : goal.new-requires
new-requires c = subst (λ (ls : List ℤ). AreRanges ls c.self.inside.ranges) (sym c.lits.ensures) c.self.invariant.ranges_are
