use Rattle.std.specs.Prelude.{◌≡◌, ◌+◌, ◌<◌, ℕ, Some, length, map, drop, slice_get}
use Rattle.lj_share.specs.Seats.{SeatValue, new_seats, seat_of_book}
use Rattle.lj_share.proofs.shared.seats_of.Given as goal

-- the seats so far have their parts and their copies, which show them, and the parts and copies of the others are left
abbrev pub invariant-loop-copy : goal.invariant-loop-copy
invariant-loop-copy g l =
    let left = l.copy-iterator.rest.items in
    record {
      parts : l.rest.parts ≡ length left;
      amount : l.rest.amount ≡ 0;
      many : l.number + length left ≡ length l.fn.copies.items;
      out : l.out.items ≡ new_seats l.fn.formula l.number;
      named : map (λ c. c.name) left ≡ drop l.number g.L.BookId.lists;
      long : length l.lists ≡ length l.fn.copies.items;
      shown : (k : ℕ) (value : SeatValue) → k < l.number → slice_get l.lists k ≡ Some value → value ≡ seat_of_book l.fn.book k;
    }
