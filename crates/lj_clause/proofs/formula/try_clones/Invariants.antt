use Rattle.std.proofs.Common.{◌≡◌, take}
use Rattle.lj_clause.proofs.formula.try_clones.Given as goal

abbrev pub invariant-loop-clause : goal.invariant-loop-clause
invariant-loop-clause l = l.all.items ≡ take l.clause-index l.clauses.items
