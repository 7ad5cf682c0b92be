use Rattle.std.proofs.Common.{◌+◌, ◌≤◌, ◌<◌, ◌^◌}
use Rattle.lj_book.specs.inner.Encoding.{groups_numbers}
use Rattle.lj_book.specs.inner.Records.{addition_numbers}
use Rattle.lj_book.proofs.history.numbers_of.Given as goal

-- what is counted so far, and the numbers of the groups to come, are no fewer than those of the addition
abbrev pub invariant-loop-group : goal.invariant-loop-group
invariant-loop-group l = l.count < 2 ^ 63 → addition_numbers l.step ≤ l.count + groups_numbers l.group-iterator
