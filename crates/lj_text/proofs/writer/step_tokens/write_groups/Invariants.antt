use Rattle.std.proofs.Common.{◌≡◌, ◌++◌}
use Rattle.lj_text.specs.inner.Writing.{Wrote}
use Rattle.lj_text.proofs.WrittenTokens.{groups_text}
use Rattle.lj_text.proofs.writer.step_tokens.write_groups.Given as goal

-- the first groups are written
abbrev pub invariant-loop-group : goal.invariant-loop-group
invariant-loop-group g l = record {
  wrote : Wrote (g.W.Sink.taken l.fn.sink) l.fn.buffer (g.W.Sink.taken l.sink) l.buffer (groups_text l.yielded);
  left : l.groups ≡ l.yielded ++ l.group-iterator;
  unfailed : g.W.Sink.failures l.sink ≡ 0;
}
