use Rattle.std.proofs.Common.{ap, ◌∙◌}
use Rattle.std.specs.FinMap as fin
use Rattle.lj_book.proofs.RangeLaws.{key_placed}
use Rattle.lj_book.proofs.clause_log.ClauseLog.is_live.Goals as goal

pub returns : goal.returns
returns c =
    c.contains_key.ensures
    ∙ key_placed c.self.inside.history.lits c.self.inside.ranges c.args.number
    ∙ ap (λ r. fin.contains_key r.live c.args.number) c.self.view_is
