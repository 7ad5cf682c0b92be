use Rattle.std.proofs.Common.{length, subst, sym}
use Rattle.std.specs.Prelude.{List}
use Rattle.lj_hint.specs.declared.pair.Pair.{Pair}
use Rattle.lj_book.specs.Views.{IsClosedAlone}
use Rattle.lj_share.proofs.CaseLaws.{closed_case, take_decided}
use Rattle.lj_share.proofs.seat.Seat.test_case.Goals as goal

pub returns-in-Err-clause-refusal : goal.returns-in-Err-clause-refusal
returns-in-Err-clause-refusal g c = take_decided c.args.self.now.view c.args.self.now.number c.args.addition.now c.in-Err.refusal c.in-Err.ensures.unlocked

pub returns-in-Closed-clause-closed : goal.returns-in-Closed-clause-closed
returns-in-Closed-clause-closed g c =
    let seat = c.args.self.now in
    let a = c.args.addition.now in
    subst (λ (ps : List Pair). IsClosedAlone seat.view seat.number a (length ps)) (sym c.listed.ensures.listed) (closed_case seat.view seat.number a c.in-Ok.case c.in-Closed.receipt c.in-Ok.ensures.unlocked c.in-Closed.ensures.propagate)
