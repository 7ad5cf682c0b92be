use Rattle.std.proofs.Common.{map, drop}
use Rattle.std.specs.Prelude.{filter, not}
use Rattle.std.specs.Fmt.{signed_decimal}
use Rattle.std.specs.Ordering.{eq_by_cmp}
use Rattle.lj_clause.specs.Literal.{lit_cmp}
use Rattle.lj_text.specs.inner.Writing.{spaced_tokens}
use Rattle.lj_text.specs.TokenWriting.{token_state}
use Rattle.lj_book.specs.inner.StepLines.{Remains}
use Rattle.lj_book.proofs.history.lines.write_others.Given as goal

-- the literals that are left are to be written, without the pivot
abbrev pub invariant-loop-literal : goal.invariant-loop-literal
invariant-loop-literal g l = record {
  remains : Remains (token_state (g.W.Sink.taken l.fn.sink) (g.W.Sink.failures l.fn.sink) l.fn.writer)
      (spaced_tokens (map signed_decimal (filter (λ x. not (eq_by_cmp lit_cmp x l.pivot)) l.literals)))
      (token_state (g.W.Sink.taken l.sink) (g.W.Sink.failures l.sink) l.writer)
      (spaced_tokens (map signed_decimal (filter (λ x. not (eq_by_cmp lit_cmp x l.pivot)) (drop l.literal-index l.literals))));
}
