use Rattle.std.proofs.Common.{Some, sym, ap, ◌∙◌, arith}
use Rattle.std.specs.Prelude.{length}
use Rattle.lj_share.specs.Entries.{calls_of}
use Rattle.lj_share.specs.Seats.{SeatValue, seat_of_book}
use Rattle.lj_share.proofs.account.Account.count_one.Goals as goal

pub invariant_of-self : goal.invariant_of-self
invariant_of-self g c =
    let i = c.self.invariant in
    let number = ap (λ (s : SeatValue). s.number) (sym c.self.view_is) ∙ i.4 in
    let before = ap (λ (s : SeatValue). length s.calls) c.self.view_is in
    let long = ap (λ (s : SeatValue). length s.calls) c.follow.ensures.seat ∙ ap (λ n. length (calls_of n c.args.book.now.history)) (sym number) ∙ c.requires.one in (
      c.audit.ensures.parts ∙ c.add.ensures.parts ∙ i.0,
      (let a = c.audit.ensures.amount in let b = c.add.ensures.amount in let d = i.1 in omega (arith, a, b, d)),
      (let d = i.2 in omega (arith, d, long, before)),
      i.3 ∙ ap Some (sym c.follow.ensures.name),
      ap (λ (s : SeatValue). s.number) c.follow.ensures.seat,
      record {
        state = c.args.book.now;
        opened = c.requires.opened;
        legal = c.history_is_legal.ensures;
        seat_is = ap (λ (s : SeatValue). seat_of_book c.args.book.now s.number) c.follow.ensures.seat ∙ sym c.follow.ensures.seat;
        holds_there = tt;
      },
    )
