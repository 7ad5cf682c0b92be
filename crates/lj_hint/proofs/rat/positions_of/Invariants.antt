use Rattle.std.proofs.Common.{◌≡◌, ◌≤◌, length}
use Rattle.lj_hint.proofs.Places.{ArePlacedFrom}
use Rattle.lj_hint.proofs.rat.positions_of.Given as goal

abbrev pub invariant-loop-at : goal.invariant-loop-at
invariant-loop-at g l =
    (l.at ≤ length (g.G.GroupList.groups l.groups)) × ((length l.positions.items ≡ length l.candidates) × ArePlacedFrom (g.G.GroupList.groups l.groups) l.candidates l.positions.items l.at)

abbrev pub decreases-loop-at : goal.decreases-loop-at
decreases-loop-at g l = l.at
