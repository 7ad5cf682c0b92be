use Rattle.std.proofs.Common.{◌≡◌, ◌-◌}
use Rattle.lj_book.specs.inner.Encoding.{hint_group_in, hint_groups_in, many_in, read_behind}
use Rattle.lj_book.proofs.encoding.reading.groups.Given as goal

-- the groups so far, and what is read behind them, are all groups
abbrev pub invariant-loop : goal.invariant-loop
invariant-loop l = read_behind l.groups (many_in hint_group_in (l.count - l.counter) l.rest) ≡ hint_groups_in l.encoding
