-- The two copies of what a seat is: each has one half of a name, which stands at it. The halves agree, and the name is set with both at
-- hand.
use Rattle.std.specs.Prelude.{ℕ}
use base.Fml.{Fml, fobs, fauth}
use Rattle.lj_share.specs.Seats.{SeatValue}
use Rattle.lj_share.specs.inner.Codes.{seat_code}

-- the half of the copy under the lock
unfoldable pub book_copy_owns : ℕ → SeatValue → Fml
book_copy_owns name seat = fauth name (seat_code.code seat)

-- the half of the seat's copy
unfoldable pub seat_copy_owns : ℕ → SeatValue → Fml
seat_copy_owns name seat = fobs name (seat_code.code seat)
