use Rattle.std.proofs.Common.{Some, sym, ap, subst, ◌∙◌}
use Rattle.std.specs.Prelude.{length}
use Rattle.lj_share.specs.Seats.{SeatValue, seat_of_book}
use Rattle.lj_share.specs.inner.Seats.{IsSeatOf}
use Rattle.lj_share.proofs.ListLaws.{shown_again}
use Rattle.lj_share.proofs.account.Account.agree.Goals as goal

pub invariant_of-self : goal.invariant_of-self
invariant_of-self g c =
    let i = c.self.invariant in
    let same = c.follow.ensures.seat ∙ sym (c.requires c.self.inside.number c.self.inside.copy.seat c.follow.ensures.agree) in
    (i.0, i.1, i.2 ∙ ap (λ (s : SeatValue). length s.calls) (sym same), i.3 ∙ ap Some (sym c.follow.ensures.name), ap (λ (s : SeatValue). s.number) same ∙ i.4, subst (IsSeatOf g.L.BookId.formula g.L.BookId.seats g.L.BookId.max_steps) (sym same) i.5)

pub returns-clause-kept : goal.returns-clause-kept
returns-clause-kept g c =
    c.follow.ensures.seat ∙ sym (c.requires c.self.inside.number c.self.inside.copy.seat c.follow.ensures.agree) ∙ c.self.view_is

pub returns-clause-lists : goal.returns-clause-lists
returns-clause-lists g c = shown_again c.args.book.now c.self.inside.number c.self.inside.copy.seat c.args.lists.now c.follow.new.self c.requires c.follow.ensures.agree c.follow.ensures.locked_book

pub returns-clause-seat : goal.returns-clause-seat
returns-clause-seat g c =
    ap (λ (s : SeatValue). seat_of_book c.args.book.now s.number) (sym c.self.view_is)
    ∙ ap (seat_of_book c.args.book.now) c.self.invariant.4
    ∙ sym (c.requires c.self.inside.number c.self.inside.copy.seat c.follow.ensures.agree)
    ∙ c.self.view_is
