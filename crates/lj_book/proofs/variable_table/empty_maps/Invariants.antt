use Rattle.std.proofs.Common.{◌≡◌}
use Rattle.std.specs.Prelude.{replicate}
use Rattle.std.specs.FinMap as fin
use Rattle.lj_book.proofs.variable_table.empty_maps.Given as goal

abbrev pub invariant-loop-count : goal.invariant-loop-count
invariant-loop-count l = l.maps.items ≡ replicate l._count fin.empty
