use Rattle.std.proofs.Common.{◌≡◌, ◌++◌}
use Rattle.lj_text.specs.inner.Writing.{Wrote}
use Rattle.lj_text.proofs.WrittenTokens.{numbers_text}
use Rattle.lj_text.proofs.writer.step_tokens.write_each.Given as goal

-- the first numbers are written
abbrev pub invariant-loop-number : goal.invariant-loop-number
invariant-loop-number g l = record {
  wrote : Wrote (g.W.Sink.taken l.fn.sink) l.fn.buffer (g.W.Sink.taken l.sink) l.buffer (numbers_text l.yielded);
  left : l.fn.numbers ≡ l.yielded ++ l.number-iterator;
  unfailed : g.W.Sink.failures l.sink ≡ 0;
}
