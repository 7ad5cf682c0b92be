use Rattle.std.proofs.Common.{◌-◌}
use Rattle.std.specs.Prelude.{flat_map}
use Rattle.lj_text.specs.StepText.{group_tokens}
use Rattle.lj_text.specs.inner.Writing.{spaced_tokens}
use Rattle.lj_text.specs.TokenWriting.{token_state}
use Rattle.lj_book.specs.inner.Encoding.{hint_group_in, hint_groups_in, many_in}
use Rattle.lj_book.specs.inner.StepLines.{Remains}
use Rattle.lj_book.proofs.history.lines.write_groups.Given as goal

-- the groups that are left are to be written
abbrev pub invariant-loop : goal.invariant-loop
invariant-loop g l = record {
  remains : Remains (token_state (g.W.Sink.taken l.fn.sink) (g.W.Sink.failures l.fn.sink) l.fn.writer)
      (spaced_tokens (flat_map group_tokens (hint_groups_in l.encoding).0))
      (token_state (g.W.Sink.taken l.sink) (g.W.Sink.failures l.sink) l.writer)
      (spaced_tokens (flat_map group_tokens (many_in hint_group_in (l.count - l.counter) l.rest).0));
}
