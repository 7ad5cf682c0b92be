use Rattle.std.proofs.Common.{◌≡◌}
use Rattle.std.specs.Prelude.{replicate}
use Rattle.lj_book.specs.declared.event.Pending.TheVariants as pendings
use Rattle.lj_book.proofs.pending.nothing_pending.Given as goal

abbrev pub invariant-loop-seat : goal.invariant-loop-seat
invariant-loop-seat l = l.pending.items ≡ replicate l._seat pendings.Nothing
