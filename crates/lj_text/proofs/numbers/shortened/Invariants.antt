use Rattle.std.proofs.Common.{◌≡◌, take}
use Rattle.lj_text.proofs.numbers.shortened.Given as goal

abbrev pub invariant-loop-number : goal.invariant-loop-number
invariant-loop-number l = l.u32s.items ≡ take l.number-index l.numbers
