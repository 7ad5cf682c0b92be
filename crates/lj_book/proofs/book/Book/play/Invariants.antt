use Rattle.std.proofs.Common.{◌≡◌, ◌≤◌, length, take}
use Rattle.std.specs.Vec.{vec_len, vec_capacity}
use Rattle.lj_book.specs.NamedWorlds.{named_nothing_pending}
use Rattle.lj_book.proofs.PrivateReplies.{IsKeptRun}
use Rattle.lj_book.proofs.book.Book.play.Given as goal

abbrev pub invariant-loop-event : goal.invariant-loop-event
invariant-loop-event l = record {
  run : IsKeptRun (named_nothing_pending l.fn.self) (take l.event-index l.events) l.replies.items (record { state = l.self; pending = l.pending.items });
  len : vec_len l.replies ≡ l.event-index;
  capacity : length l.events ≤ vec_capacity l.replies;
}
