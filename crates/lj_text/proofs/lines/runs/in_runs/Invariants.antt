use Rattle.std.proofs.Common.{◌≡◌, ◌≤◌, ◌<◌, ◌++◌, length, take}
use Rattle.std.specs.List.{AllByRecursion, concat}
use Rattle.lj_text.specs.inner.LinesBuffered.{EndsLine, HasNoLateEnd, IsLineRun}
use Rattle.lj_text.proofs.lines.runs.in_runs.Given as goal

abbrev pub invariant-loop-count : goal.invariant-loop-count
invariant-loop-count l = record {
  bytes : concat l.runs.items ++ l.rest ≡ l.bytes;
  whole : AllByRecursion IsLineRun l.runs.items;
  within : l.count ≤ length l.rest;
  ends : l.count < length l.rest → EndsLine (take l.count l.rest);
  long : l.count < length l.rest → 65536 ≤ length (take l.count l.rest);
  late : HasNoLateEnd (take l.count l.rest);
}

abbrev pub decreases-loop-count : goal.decreases-loop-count
decreases-loop-count l = length l.rest
