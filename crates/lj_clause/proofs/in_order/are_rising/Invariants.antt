use Rattle.std.proofs.Common.{◌≤◌}
use Rattle.lj_clause.proofs.in_order.are_rising.Given as goal

abbrev pub invariant-loop-i : goal.invariant-loop-i
invariant-loop-i l = l.falls ≤ l.i
