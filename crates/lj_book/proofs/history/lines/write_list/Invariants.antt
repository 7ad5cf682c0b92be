use Rattle.std.proofs.Common.{◌≡◌, ◌-◌, map}
use Rattle.std.specs.Fmt.{decimal}
use Rattle.lj_text.specs.inner.Writing.{spaced_tokens}
use Rattle.lj_text.specs.TokenWriting.{token_state}
use Rattle.lj_book.specs.inner.Encoding.{number_in, list_in, many_in}
use Rattle.lj_book.specs.inner.StepLines.{Remains}
use Rattle.lj_book.proofs.history.lines.write_list.Given as goal

-- the numbers that are left are to be written
abbrev pub invariant-loop : goal.invariant-loop
invariant-loop g l = record {
  remains : Remains (token_state (g.W.Sink.taken l.fn.sink) (g.W.Sink.failures l.fn.sink) l.fn.writer)
      (spaced_tokens (map decimal (list_in l.encoding).0))
      (token_state (g.W.Sink.taken l.sink) (g.W.Sink.failures l.sink) l.writer)
      (spaced_tokens (map decimal (many_in number_in (l.count - l.counter) l.rest).0));
  behind : (many_in number_in (l.count - l.counter) l.rest).1 ≡ (list_in l.encoding).1;
}
