use Rattle.std.proofs.Common.{◌≡◌, drop}
use Rattle.lj_clause.specs.Rat.{group_of}
use Rattle.lj_hint.proofs.rat.first_position.Given as goal

abbrev pub invariant-loop-index : goal.invariant-loop-index
invariant-loop-index g l = group_of l.number (drop l.index (g.G.GroupList.groups l.groups)) ≡ group_of l.number (g.G.GroupList.groups l.groups)
