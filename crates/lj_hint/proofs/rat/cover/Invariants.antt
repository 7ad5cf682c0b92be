use Rattle.std.proofs.Common.{◌≡◌, ◌≤◌, drop, length}
use Rattle.std.specs.Prelude.{IfSome}
use Rattle.lj_clause.specs.LiteralSet.{from_literals}
use Rattle.lj_clause.specs.Rat.{candidates, rat_over}
use Rattle.lj_hint.specs.inner.Groups.{AreGroupPositions}
use Rattle.lj_hint.specs.inner.Coverings.{covered_before}
use Rattle.lj_hint.specs.RatTest.{rat_told}
use Rattle.lj_hint.proofs.RatTests.{behind_groups}
use Rattle.lj_hint.proofs.rat.cover.Given as goal

abbrev pub invariant-loop-index : goal.invariant-loop-index
invariant-loop-index g l = record {
  within : l.index ≤ length l.numbers.items;
  same : l.assigned ≡ l.initial.assigned;
  told : behind_groups (covered_before (g.G.GroupList.groups l.groups) l.index l.covered) (rat_told (rat_over (from_literals l.assigned) l.pivot (g.G.GroupList.groups l.groups) (drop l.index (candidates (g.L.Clauses.clauses l.live) l.pivot))))
      ≡ rat_told (rat_over (from_literals l.assigned) l.pivot (g.G.GroupList.groups l.groups) (candidates (g.L.Clauses.clauses l.live) l.pivot));
  positioned : IfSome l.positions (λ positions. AreGroupPositions (g.G.GroupList.groups l.groups) l.numbers.items positions.items);
}
