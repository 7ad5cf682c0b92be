use Rattle.std.proofs.Common.{◌≡◌, ℕ, take, cond}
use Rattle.std.specs.Prelude.{None}
use Rattle.std.specs.FinMap as fin
use Rattle.lj_book.specs.Tables.{is_among}
use Rattle.lj_book.proofs.clause_log.ClauseLog.bury.Given as goal

abbrev pub invariant-loop-n : goal.invariant-loop-n
invariant-loop-n l = (l.self.history ≡ l.fn.self.history) × ((q : ℕ) → fin.get l.self.live q ≡ cond (is_among (take l.n-index l.numbers) q) None (fin.get l.fn.self.live q))
