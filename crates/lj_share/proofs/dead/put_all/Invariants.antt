use Rattle.std.specs.Prelude.{◌≡◌, length}
use Rattle.lj_share.specs.inner.Dead.{AreWith, AreFlagged}
use Rattle.lj_share.proofs.dead.put_all.Given as goal

abbrev pub invariant-loop-own : goal.invariant-loop-own
invariant-loop-own l = AreWith l.yielded l.initial.set l.set × AreFlagged l.flags.items l.set × (length l.flags.items ≡ 4096)
