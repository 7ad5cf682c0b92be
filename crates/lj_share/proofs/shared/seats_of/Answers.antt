use Rattle.std.proofs.Common.{◌≡◌, ◌<◌, suc, ◌+◌, [], ◌∷◌, ◌++◌, length, map, Some, subst, sym, ap, ◌∙◌, arith}
use Rattle.lj_book.specs.Views.{formula_holdings}
use Rattle.lj_share.specs.Seats.{new_seats, SeatValue}
use Rattle.lj_share.specs.inner.Seats.{IsOwnOf}
use Rattle.lj_share.specs.declared.copies.SeatCopy.{SeatCopy}
use Rattle.lj_share.proofs.ListLaws.{front_at, front_passed}
use Rattle.lj_share.proofs.NewSeats.{all_shown, more_shown, set_as_long, opened_seat, opened_view}
use Rattle.lj_share.proofs.KeptLaws.{own_opened}
use Rattle.lj_share.proofs.Opened.{seat_of_state}
use Rattle.lj_share.proofs.shared.seats_of.Goals as goal

pub follow-requires : goal.follow-requires
follow-requires g c =
    front_at g.L.BookId.lists c.loop-copy.number c.in-Some.copy.name (map (λ (c : SeatCopy). c.name) c.next.new.self.rest.items) (ap (map (λ (c : SeatCopy). c.name)) (sym c.in-Some.ensures.steps.0) ∙ c.loop-copy.invariant.named)

pub new-account-requires-clause-named : goal.new-account-requires-clause-named
new-account-requires-clause-named g c =
    front_at g.L.BookId.lists c.loop-copy.number c.in-Some.copy.name (map (λ (c : SeatCopy). c.name) c.next.new.self.rest.items) (ap (map (λ (c : SeatCopy). c.name)) (sym c.in-Some.ensures.steps.0) ∙ c.loop-copy.invariant.named)
    ∙ ap Some (sym c.follow.ensures.name)

pub new-account-requires-clause-state : goal.new-account-requires-clause-state
new-account-requires-clause-state g c = seat_of_state _ _ _ c.args.book.now c.follow.new.copy.seat c.loop-copy.number c.requires.state c.history_is_legal.ensures c.follow.ensures.seat

pub new-requires-in-loop-copy : goal.new-requires-in-loop-copy
new-requires-in-loop-copy g c =
    let long = ap length c.in-Some.ensures.steps.0 in
    let many = c.loop-copy.invariant.many in
    let within : c.loop-copy.number < length c.args.copies.items = omega (arith, long, many) in
    let view = ap (λ (s : SeatValue). s.view) (c.new-account.ensures ∙ c.follow.ensures.seat) ∙ opened_view c.seats_hold_the_formula.ensures.formula _ _ _ _ _ c.requires.opened within in
    let here = own_opened c.seats_hold_the_formula.ensures.clauses c.args.formula.now c.in_ok-new.field-0 c.in_ok-new.ensures in
    subst (IsOwnOf g.L.BookId.formula (Some c.in_ok-new.field-0)) (sym view) (subst (λ f. IsOwnOf f (Some c.in_ok-new.field-0) (Some (formula_holdings c.args.formula.now))) c.requires.formula here)

pub loop-copy-preserved : goal.loop-copy-preserved
loop-copy-preserved g c =
    let i = c.loop-copy.invariant in
    let step = c.in-Some.ensures.steps.0 in
    let long = ap length step in
    let many = i.many in
    let within : c.loop-copy.number < length c.args.copies.items = omega (arith, long, many) in
    let seat = c.new-in-loop-copy.ensures ∙ c.new-account.ensures ∙ c.follow.ensures.seat ∙ opened_seat c.seats_hold_the_formula.ensures.formula _ _ _ _ _ c.requires.opened within in
    record {
      parts = (let a = c.split_off.ensures.parts_left in let b = i.parts in omega (arith, a, b, long));
      amount = (let a = c.split_off.ensures.amount_left in let b = i.amount in omega (arith, a, b));
      many = omega (arith, many, long);
      out = c.in_ok-push.ensures.items ∙ (λ j. i.out j ++ seat j ∷ []) ∙ (let e : c.loop-copy.number + 1 ≡ suc c.loop-copy.number = omega arith in ap (new_seats c.args.formula.now) (sym e));
      named = front_passed g.L.BookId.lists c.loop-copy.number c.in-Some.copy.name (map (λ (c : SeatCopy). c.name) c.next.new.self.rest.items) (ap (map (λ (c : SeatCopy). c.name)) (sym step) ∙ i.named);
      long = ap length c.follow.ensures.locked_book ∙ set_as_long _ _ _ ∙ i.long;
      shown = more_shown c.args.book.now c.loop-copy.lists c.follow.new.self c.loop-copy.number c.follow.ensures.locked_book i.shown;
    }

pub returns-clause-shown : goal.returns-clause-shown
returns-clause-shown g c =
    let i = c.loop-copy.invariant in
    let none = c.in-None.ensures.steps.0 in
    let left = c.loop-copy.copy-iterator.rest.ok.0 in
    let many = i.many in
    let long = i.long in
    all_shown c.args.book.now c.loop-copy.lists c.loop-copy.number (omega (arith, none, left, many, long)) i.shown
