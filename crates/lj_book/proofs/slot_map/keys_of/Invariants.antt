use Rattle.std.proofs.Common.{◌≡◌, ◌++◌, true}
use Rattle.std.specs.Prelude.{drop, map}
use Rattle.lj_book.specs.inner.Slots.{slot_numbers}
use Rattle.lj_book.proofs.slot_map.keys_of.Given as goal

abbrev pub invariant-loop-at : goal.invariant-loop-at
invariant-loop-at g l = l.keys.items ++ slot_numbers (λ _. true) l.at (drop l.at (map g.S.Slot.held l.slots)) ≡ slot_numbers (λ _. true) 0 (map g.S.Slot.held l.slots)
