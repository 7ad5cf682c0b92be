use Rattle.std.proofs.Common.{◌≡◌, take}
use Rattle.lj_hint.specs.Hints.{named_hints}
use Rattle.lj_hint.specs.inner.Hints.{hint_numbers}
use Rattle.lj_hint.proofs.hint_list.joint_numbers.Given as goal

abbrev pub invariant-loop-index : goal.invariant-loop-index
invariant-loop-index l = l.numbers ≡ hint_numbers (take l.index (named_hints l.pairs))
