use Rattle.std.proofs.Common.{length, Some, subst, sym, ap, ◌∙◌, arith}
use Rattle.std.specs.Prelude.{slice_get}
use Rattle.lj_share.specs.Seats.{AreSeatsIn, entries_made}
use Rattle.lj_share.specs.inner.Seats.{AreShown}
use Rattle.lj_share.proofs.ListLaws.{seats_on, shown_again}
use Rattle.lj_share.proofs.shared.gathered.Goals as goal

pub loop-seat-preserved : goal.loop-seat-preserved
loop-seat-preserved g c =
    let i = c.loop-seat.invariant in
    let step = c.in-Some.ensures.steps.0 in
    let made = ap entries_made step in
    let long = ap length step in
    let book = c.args.book.now in
    let at = ap (slice_get c.loop-seat.lists) (sym c.into_parts-number.ensures.number) ∙ c.follow.ensures.agree ∙ ap Some c.into_parts-number.ensures.seat in
    record {
      parts = (let a = c.merge.ensures.parts in let b = c.into_parts-number.ensures.parts in let d = i.parts in omega (arith, a, b, d, long));
      amount = (let a = c.merge.ensures.amount in let b = c.into_parts-number.ensures.amount in let d = i.amount in omega (arith, a, b, d, made));
      shown = subst (AreShown book) (sym (shown_again book c.into_parts-number.result.0 _ c.loop-seat.lists c.follow.new.self i.shown c.follow.ensures.agree c.follow.ensures.locked_book)) i.shown;
      seats = λ left. i.seats (subst (AreSeatsIn book) (sym step) (seats_on book c.loop-seat.lists c.in-Some.seat c.next.new.self.rest.items i.shown at left));
    }

pub returns-clause-seats : goal.returns-clause-seats
returns-clause-seats g c =
    let none = c.in-None.ensures.steps.0 in
    let long = c.loop-seat.seat-iterator.rest.ok.0 in
    c.loop-seat.invariant.seats (λ k d below. absurd (let no : ⊥ = omega (arith, none, long, below) in no))
