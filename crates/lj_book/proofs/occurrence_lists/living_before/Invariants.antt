use Rattle.std.proofs.Common.{◌≡◌, ◌≤◌, ◌++◌, length}
use Rattle.std.specs.Prelude.{filter, reverse}
use Rattle.std.specs.FinMap as fin
use Rattle.lj_book.specs.inner.Chains.{chain}
use Rattle.lj_book.proofs.occurrence_lists.living_before.Given as goal

-- the links that were followed are the last ones
abbrev pub invariant-loop-at : goal.invariant-loop-at
invariant-loop-at l = record {
  there : l.at ≤ length l.links;
  found : filter (λ n. fin.contains_key l.clauses n) (chain l.links l.at) ++ reverse l.living.items ≡ filter (λ n. fin.contains_key l.clauses n) (chain l.links l.last);
}

abbrev pub decreases-loop-at : goal.decreases-loop-at
decreases-loop-at l = l.at
