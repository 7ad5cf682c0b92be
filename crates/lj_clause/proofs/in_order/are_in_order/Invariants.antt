use Rattle.std.proofs.Common.{◌≡◌, true}
use Rattle.lj_clause.proofs.InOrder.{InOrderTo}
use Rattle.lj_clause.proofs.in_order.are_in_order.Given as goal

abbrev pub invariant-loop-i : goal.invariant-loop-i
invariant-loop-i l = l.right ≡ true → InOrderTo l.i l.count l.lits
