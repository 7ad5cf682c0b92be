use Rattle.std.proofs.Common.{sym, subst}
use Rattle.std.specs.Prelude.{ℤ, List}
use Rattle.lj_book.specs.inner.Ranges.{AreRanges}
use Rattle.lj_book.proofs.clause_log.ClauseLog.make_lists.Goals as goal

pub new-clauses-requires : goal.new-clauses-requires
new-clauses-requires c = subst (λ (ls : List ℤ). AreRanges ls c.self.inside.ranges) (sym c.lits.ensures) c.self.invariant.ranges_are
