use Rattle.std.proofs.Common.{◌≡◌}
use Rattle.std.specs.Prelude.{◌∷◌, replicate}
use Rattle.lj_book.proofs.counts.same_counts.Given as goal

abbrev pub invariant-loop-number : goal.invariant-loop-number
invariant-loop-number l = l.counts.items ≡ 0 ∷ replicate l._number l.count
