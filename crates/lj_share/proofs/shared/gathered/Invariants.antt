use Rattle.std.specs.Prelude.{◌≡◌, ◌+◌, length}
use Rattle.lj_share.specs.Seats.{AreSeatsIn, entries_made}
use Rattle.lj_share.specs.inner.Seats.{AreShown}
use Rattle.lj_share.proofs.shared.gathered.Given as goal

-- the shares so far and those of the seats that are left are all shares, and all seats are those of the book where the seats that are
-- left are
abbrev pub invariant-loop-seat : goal.invariant-loop-seat
invariant-loop-seat g l =
    let left = l.seat-iterator.rest.items in
    record {
      parts : l.rest.parts + length left ≡ l.fn.rest.parts + length l.fn.seats.items;
      amount : l.rest.amount + entries_made left ≡ l.fn.rest.amount + entries_made l.fn.seats.items;
      shown : AreShown l.fn.book l.lists;
      seats : AreSeatsIn l.fn.book left → AreSeatsIn l.fn.book l.fn.seats.items;
    }
