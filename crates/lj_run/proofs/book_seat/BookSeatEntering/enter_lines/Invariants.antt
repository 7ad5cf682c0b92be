use Rattle.std.proofs.Common.{◌≡◌, ◌+◌, length, map, take}
use Rattle.lj_run.specs.inner.Block.{said_in_block}
use Rattle.lj_run.specs.inner.BookSeat.{LeadsOn}
use Rattle.lj_run.proofs.book_seat.BookSeatEntering.enter_lines.Given as goal

-- the lines so far were entered
abbrev pub invariant-loop-done : goal.invariant-loop-done
invariant-loop-done g l = record {
  leads : LeadsOn l.fn.self.number l.fn.self.book (map said_in_block (take l.done l.lines)) l.self.number l.self.book;
  known : length l.self.book.history ≡ length l.fn.self.book.history + l.done;
}
