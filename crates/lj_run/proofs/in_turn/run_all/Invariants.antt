use Rattle.std.proofs.Common.{◌≡◌, length}
use Rattle.lj_text.specs.Streams.{source_state}
use Rattle.lj_run.specs.InTurn.{RunInTurn}
use Rattle.lj_run.proofs.in_turn.run_all.Given as goal

abbrev pub invariant-loop-stream : goal.invariant-loop-stream
invariant-loop-stream g l =
    let seen = source_state g.S.Source.given g.S.Source.ended g.S.Source.rest g.S.Source.failures in
    record {
      goes : (goal.iterator-loop-stream g).can_next l.stream-iterator;
      finite : (goal.iterator-loop-stream g).is_finite l.stream-iterator;
      seat_is : l.number ≡ length l.yielded;
      formula : l.seat.book.formula ≡ l.fn.seat.book.formula;
      runs : RunInTurn seen 0 l.yielded l.fn.seat.book l.reports.items l.seat.book;
    }
