use Rattle.std.proofs.Common.{◌≡◌, take}
use Rattle.lj_hint.specs.inner.Coverings.{plain_groups}
use Rattle.lj_hint.proofs.covering.first_groups.Given as goal

abbrev pub invariant-loop-index : goal.invariant-loop-index
invariant-loop-index g l = l.first ≡ take l.index (plain_groups (g.G.GroupList.groups l.groups))
