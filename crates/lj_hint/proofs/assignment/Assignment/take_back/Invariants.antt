use Rattle.std.proofs.Common.{◌≡◌, take, length}
use Rattle.lj_hint.proofs.assignment.Assignment.take_back.Given as goal

abbrev pub invariant-loop-self : goal.invariant-loop-self
invariant-loop-self l = take l.len l.self-inside.trail ≡ take l.len l.initial.self-inside.trail

abbrev pub decreases-loop-self : goal.decreases-loop-self
decreases-loop-self l = length l.self-inside.trail
