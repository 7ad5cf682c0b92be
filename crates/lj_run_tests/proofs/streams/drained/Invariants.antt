use Rattle.std.proofs.Common.{◌≡◌}
use Rattle.lj_run_tests.proofs.streams.drained.Given as goal

abbrev pub invariant-loop : goal.invariant-loop
invariant-loop g l = g.S.Source.failures l.source ≡ 0
