use Rattle.std.proofs.Common.{◌≡◌}
use Rattle.lj_book.proofs.clause_log.ClauseLog.sweep_lists.Given as goal

abbrev pub invariant-loop-lit : goal.invariant-loop-lit
invariant-loop-lit l = l.self ≡ l.fn.self
