use Rattle.std.proofs.Common.{◌≤◌, length, take}
use Rattle.lj_text.specs.LinesRead.{HasNoLineEnd}
use Rattle.lj_text.proofs.PassLemmas.{Passed}
use Rattle.lj_text.proofs.lines.look.look.Given as goal

abbrev pub invariant-loop-bytes : goal.invariant-loop-bytes
invariant-loop-bytes l = record {
  passed : Passed l.max l.first l.ahead l.rest l.number;
  within : l.none_before ≤ length l.rest;
  none : HasNoLineEnd (take l.none_before l.rest);
}

abbrev pub decreases-loop-bytes : goal.decreases-loop-bytes
decreases-loop-bytes l = length l.rest
