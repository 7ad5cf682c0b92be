use Rattle.std.proofs.Common.{inr, subst, sym}
use Rattle.lj_clause.specs.ClauseMap.{FormulaValue}
use Rattle.lj_share.specs.Refusals.{IsDecided, line_refusal}
use Rattle.lj_share.specs.Seats.{SeatValue}
use Rattle.lj_share.specs.inner.Seats.{IsLineBegun, IsOwnOf}
use Rattle.lj_share.proofs.KeptLaws.{number_decided, own_finished, own_taken_back}
use Rattle.lj_share.proofs.shared.Shared.hand_over.Goals.{in-Ok, in-Err-answer}
use Rattle.lj_share.proofs.shared.Shared.hand_over.Goals as goal

pub returns-in-Err-clause-refusal : goal.returns-in-Err-clause-refusal
returns-in-Err-clause-refusal g c =
    let k = c.seat.inside.own in
    let account = c.seat.inside.account in
    let are = subst (λ (f : FormulaValue). IsOwnOf f k account.view) (sym c.self.invariant.1) c.seat.invariant in
    let is = number_decided c.self.inside.formula k account c.args.line.now c.in-Err.refusal are c.in-Err.ensures.refusal in
    inr (subst (λ (s : SeatValue). IsDecided (line_refusal s c.args.line.now) c.in-Err.refusal) c.seat.view_is is)

pub invariant_of-seat-2 : goal.invariant_of-seat-2
invariant_of-seat-2 g c =
    let f = g.L.BookId.formula in
    let k = c.seat.inside.own in
    let l = c.begin.new.kept in
    let view = c.seat.inside.account.view in
    let line = c.args.line.now in
    let begun = subst (λ (x : FormulaValue). IsLineBegun x line k l) c.self.invariant.1 c.in_default.ensures.begun in
    elim c.match-answer.branch [
      | in-Ok w ↦ rw w.seat-inside-is (own_finished f k l w.finish.new.kept view c.enter-answer.new.account.view line w.in-Ok.joint c.seat.invariant begun w.finish.ensures w.in-Ok.ensures.view)
      | in-Err-answer w ↦ rw w.seat-inside-is (subst (λ (s : SeatValue). IsOwnOf f w.take_back.new.kept s.view) (sym w.in-Err-answer.ensures.kept) (own_taken_back f k l w.take_back.new.kept view line c.seat.invariant begun w.take_back.ensures))
    ]
