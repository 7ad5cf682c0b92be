use Rattle.std.proofs.Common.{sym, ◌∙◌}
use Rattle.lj_share.proofs.AloneLaws.{behind_closed, closed_by, unseen_by}
use Rattle.lj_share.proofs.seat.SeenClauses.closed_after.Goals as goal

pub returns-in-Some-clause-refusal : goal.returns-in-Some-clause-refusal
returns-in-Some-clause-refusal g c =
    let m = c.args.self.now in
    let a = c.args.addition.now in
    unseen_by m a c.in-Some.own c.requires.free (behind_closed m a c.args.read c.requires ∙ sym c.first_unseen.ensures ∙ c.in-Some.is)

pub returns-clause-closed : goal.returns-clause-closed
returns-clause-closed g c =
    let m = c.args.self.now in
    let a = c.args.addition.now in
    closed_by c.propagations_go_by_clauses.ensures.ending m a c.args.read c.requires (behind_closed m a c.args.read c.requires ∙ sym c.first_unseen.ensures ∙ c.in_default.is)
