use Rattle.std.proofs.Common.{◌≡◌, take, map}
use Rattle.std.specs.Prelude.{filter, not}
use Rattle.std.specs.Fmt.{signed_decimal}
use Rattle.std.specs.Ordering.{eq_by_cmp}
use Rattle.lj_clause.specs.Literal.{lit_cmp}
use Rattle.lj_text.specs.inner.Writing.{Wrote, spaced_tokens}
use Rattle.lj_text.proofs.writer.step_tokens.write_others.Given as goal

-- the first literals are written, without the pivot
abbrev pub invariant-loop-literal : goal.invariant-loop-literal
invariant-loop-literal g l = record {
  wrote : Wrote (g.W.Sink.taken l.fn.sink) l.fn.buffer (g.W.Sink.taken l.sink) l.buffer
      (spaced_tokens (map signed_decimal (filter (λ x. not (eq_by_cmp lit_cmp x l.pivot)) (take l.literal-index l.literals))));
  unfailed : g.W.Sink.failures l.sink ≡ 0;
}
