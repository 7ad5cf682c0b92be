use Rattle.std.proofs.Common.{◌-◌, ◌≤◌}
use Rattle.lj_text.proofs.GroupRows.{IsListed}
use Rattle.lj_text.proofs.groups.IndexedGroups.new.Given as goal

abbrev pub invariant-loop : goal.invariant-loop
invariant-loop l = (l.counter ≤ l.count) × IsListed l.row l.rest l.starts (l.count - l.counter) l.groups
