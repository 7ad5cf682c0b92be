use Rattle.std.proofs.Common.{refl, sym, ◌∙◌, true, false}
use Rattle.std.specs.Prelude.{is_some}
use Rattle.lj_share.proofs.AloneLaws.{whether_bound, first_found, first_later}
use Rattle.lj_share.proofs.seat.SeenClauses.first_unseen.Goals as goal

pub returns-then-is_none : goal.returns-then-is_none
returns-then-is_none g c =
    first_found c.args.self.now c.args.numbers.now c.loop-index.index c.in_ok-own.own (sym c.get.ensures ∙ c.in_ok-own.was)
    (whether_bound c.args.self.now c.in_ok-own.own c.clause.result (is_some c.clause.result) false c.clause.ensures refl c.if-is_none.ensures)
    ∙ sym c.loop-index.invariant

pub loop-index-preserved : goal.loop-index-preserved
loop-index-preserved g c =
    c.loop-index.invariant
    ∙ first_later c.args.self.now c.args.numbers.now c.loop-index.index c.in_ok-own.own (sym c.get.ensures ∙ c.in_ok-own.was)
    (whether_bound c.args.self.now c.in_ok-own.own c.clause.result (is_some c.clause.result) true c.clause.ensures refl c.if-is_none.ensures)
