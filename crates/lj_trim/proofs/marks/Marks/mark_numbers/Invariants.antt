use Rattle.std.proofs.Common.{◌≡◌, ◌++◌}
use Rattle.lj_trim.specs.inner.Marks.{Marked}
use Rattle.lj_trim.proofs.marks.Marks.mark_numbers.Given as goal

-- the first numbers are marked
abbrev pub invariant-loop-number : goal.invariant-loop-number
invariant-loop-number l = record {
  marked : Marked l.fn.self l.self l.yielded;
  left : l.fn.numbers ≡ l.yielded ++ l.number-iterator;
}
