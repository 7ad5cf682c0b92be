use Rattle.std.proofs.Common.{◌≡◌, ◌++◌}
use Rattle.lj_trim.specs.inner.Trimmed.{keeps, groups_by}
use Rattle.lj_trim.proofs.trimming.kept_groups.Given as goal

-- the first groups are done
abbrev pub invariant-loop-group : goal.invariant-loop-group
invariant-loop-group l = record {
  kept : l.kept ≡ groups_by (keeps l.clauses l.marks) l.yielded;
  left : l.groups ≡ l.yielded ++ l.group-iterator;
}
