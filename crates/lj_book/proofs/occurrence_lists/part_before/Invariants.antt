use Rattle.std.proofs.Common.{◌≡◌, ◌≤◌, length}
use Rattle.std.specs.Prelude.{filter, slice_get}
use Rattle.std.specs.Option.{option_or}
use Rattle.std.specs.FinMap as fin
use Rattle.lj_book.specs.inner.Parts.{begins_part}
use Rattle.lj_book.specs.inner.Chains.{chain}
use Rattle.lj_book.proofs.occurrence_lists.part_before.Given as goal

-- the links that were followed are the last ones
abbrev pub invariant-loop-at : goal.invariant-loop-at
invariant-loop-at l = record {
  there : l.at ≤ length l.links;
  found : option_or (slice_get (filter (λ n. begins_part l.wanted l.first (fin.get l.clauses n)) (chain l.links l.at)) 0) l.oldest ≡ slice_get (filter (λ n. begins_part l.wanted l.first (fin.get l.clauses n)) (chain l.links l.last)) 0;
}

abbrev pub decreases-loop-at : goal.decreases-loop-at
decreases-loop-at l = l.at
