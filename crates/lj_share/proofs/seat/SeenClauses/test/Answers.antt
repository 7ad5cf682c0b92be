use Rattle.std.proofs.Common.{true}
use Rattle.lj_share.proofs.AloneLaws.{whether_bound, taken_by}
use Rattle.lj_share.proofs.seat.SeenClauses.test.Goals as goal

pub returns-then-is_some-clause-refusal : goal.returns-then-is_some-clause-refusal
returns-then-is_some-clause-refusal g c =
    let m = c.args.self.now in
    let a = c.args.addition.now in
    taken_by m a (whether_bound m a.number c.clause.result c.is_some.result true c.clause.ensures c.is_some.ensures c.if-is_some.true)
