use Rattle.std.proofs.Common.{drop}
use Rattle.std.specs.Prelude.{filter_map}
use Rattle.lj_text.specs.Needed.{up_to_empty}
use Rattle.lj_text.specs.StepText.{text_after}
use Rattle.lj_text.specs.TokenWriting.{token_state}
use Rattle.lj_book.specs.inner.StepLines.{Remains}
use Rattle.lj_book.proofs.RecordLaws.{step_at}
use Rattle.lj_book.proofs.history.lines.write_entries.Given as goal

-- the steps of the entries that are left are to be written
abbrev pub invariant-loop-start : goal.invariant-loop-start
invariant-loop-start g l = record {
  remains : Remains (token_state (g.W.Sink.taken l.fn.sink) (g.W.Sink.failures l.fn.sink) l.fn.writer)
      (text_after l.clauses (up_to_empty (filter_map (step_at l.lits l.encoding) l.starts)))
      (token_state (g.W.Sink.taken l.sink) (g.W.Sink.failures l.sink) l.writer)
      (text_after l.greatest (up_to_empty (filter_map (step_at l.lits l.encoding) (drop l.start-index l.starts))));
}
