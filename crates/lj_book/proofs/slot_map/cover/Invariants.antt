use Rattle.std.proofs.Common.{◌≡◌, length}
use Rattle.lj_book.specs.inner.Slots.{held_map}
use Rattle.lj_book.proofs.slot_map.cover.Given as goal

abbrev pub invariant-loop : goal.invariant-loop
invariant-loop g l = (held_map g.S.Slot.held l.slots.items ≡ held_map g.S.Slot.held l.fn.slots.items) × (length l.slots.items ≡ l.counter)
