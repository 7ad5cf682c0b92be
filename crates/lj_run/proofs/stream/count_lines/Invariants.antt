use Rattle.std.proofs.Common.{◌≡◌, ◌+◌, drop}
use Rattle.lj_run.specs.inner.Tally.{with_lines}
use Rattle.lj_run.proofs.stream.count_lines.Given as goal

-- the lines so far are counted
abbrev pub invariant-loop-numbered : goal.invariant-loop-numbered
invariant-loop-numbered l = record {
  counted : with_lines l.tally (drop l.numbered-index l.lines) ≡ with_lines l.fn.tally l.lines;
  sum : l.tally.added + l.tally.deleted + l.tally.imported ≡ l.fn.tally.added + l.fn.tally.deleted + l.fn.tally.imported + l.numbered-index;
}
