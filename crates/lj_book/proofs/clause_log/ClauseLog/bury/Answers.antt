use Rattle.std.proofs.Common.{arith, ◌∙◌}
use Rattle.lj_book.proofs.Copies.{taken-more, taken-all}
use Rattle.lj_book.proofs.clause_log.ClauseLog.bury.Goals as goal

pub loop-n-preserved : goal.loop-n-preserved
loop-n-preserved c = (
  c.remove.ensures.history ∙ c.loop-n.invariant.0,
  taken-more c.args.self.now.live c.loop-n.self.live c.remove.new.self.live c.args.numbers.now c.loop-n.n-index 0 c.loop-n-test.true c.loop-n.invariant.1 c.remove.ensures.removed,
)

pub returns-clause-lives : goal.returns-clause-lives
returns-clause-lives c = taken-all c.args.self.now.live c.loop-n.self.live c.args.numbers.now c.loop-n.n-index (omega arith) c.loop-n.invariant.1
