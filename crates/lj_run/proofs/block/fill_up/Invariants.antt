use Rattle.std.proofs.Common.{◌≡◌, ℕ, List, None}
use Rattle.lj_text.specs.Streams.{SourceState}
use Rattle.lj_run.specs.inner.Block.{BlockRead}
use Rattle.lj_run.proofs.block.fill_up.Given as goal

-- what was read so far is a block
abbrev pub invariant-loop : goal.invariant-loop
invariant-loop l = record {
  read : (fed : List ℕ) (handed : ℕ) (before after : SourceState)
      → BlockRead l.fn.reader.max fed handed l.fn.reader before after l.fn.lines.items None
      → BlockRead l.fn.reader.max fed handed l.reader before after l.lines.items None;
  no_fault : l.reader.fault ≡ None;
  max : l.reader.max ≡ l.fn.reader.max;
  finished : l.reader.finished ≡ l.fn.reader.finished;
}
