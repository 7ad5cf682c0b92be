use Rattle.std.proofs.Common.{◌≡◌}
use Rattle.lj_run.proofs.block.take_back.Given as goal

-- the reader is as it was
abbrev pub invariant-loop : goal.invariant-loop
invariant-loop l = l.reader ≡ l.fn.reader
