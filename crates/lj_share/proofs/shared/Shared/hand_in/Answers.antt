use Rattle.std.proofs.Common.{subst}
use Rattle.lj_clause.specs.ClauseMap.{IsFormula}
use Rattle.lj_share.proofs.FreeLaws.{told_if_decided}
use Rattle.lj_share.proofs.OpenLaws.{told_if_open}
use Rattle.lj_share.proofs.shared.Shared.hand_in.Goals as goal

pub returns-clause-decided : goal.returns-clause-decided
returns-clause-decided g c =
    let o = g.L.BookId in
    let done = c.test_and_hand_over in
    told_if_decided c.decided_alone.ensures c.free_alone.ensures o.formula (subst IsFormula c.self.invariant.1 c.variables.ensures.formula) o.seats o.max_steps c.args.seat.now c.args.line.now done.result done.ensures.free done.ensures.refusal

pub returns-clause-open : goal.returns-clause-open
returns-clause-open g c clear =
    let o = g.L.BookId in
    let done = c.test_and_hand_over in
    told_if_open c.free_alone.ensures o.formula (subst IsFormula c.self.invariant.1 c.variables.ensures.formula) o.seats o.max_steps c.args.seat.now c.args.line.now done.result done.ensures.refusal clear
