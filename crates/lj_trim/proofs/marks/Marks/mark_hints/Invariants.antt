use Rattle.std.proofs.Common.{◌≡◌, ◌++◌}
use Rattle.std.specs.Prelude.{flat_map}
use Rattle.lj_clause.specs.Rat.{HintGroup}
use Rattle.lj_trim.specs.inner.Marks.{Marked}
use Rattle.lj_trim.proofs.marks.Marks.mark_hints.Given as goal

-- the hints of the first list and of the first groups are marked
abbrev pub invariant-loop-group : goal.invariant-loop-group
invariant-loop-group l = record {
  marked : Marked l.fn.self l.self (l.addition.hints ++ flat_map (λ (g : HintGroup). g.hints) l.yielded);
  left : l.addition.groups ≡ l.yielded ++ l.group-iterator;
}
