use Rattle.std.proofs.Common.{ap, refl, ◌∙◌}
use Rattle.std.specs.Prelude.{[]}
use Rattle.std.specs.FinMap as fin
use Rattle.lj_book.specs.inner.Slots.{joined_map, held_map}
use Rattle.lj_book.proofs.Slots.{joined_empty}
use Rattle.lj_book.proofs.NumberMaps.{no_entries}
use Rattle.lj_book.proofs.slot_map.SlotMap.new.Goals as goal

pub returns : goal.returns
returns g c =
    ap (λ xs. joined_map (held_map g.S.Slot.held xs) c.new-2.result) c.new.ensures.items
    ∙ ap (λ m. joined_map m c.new-2.result) (no_entries [] refl)
    ∙ ap (joined_map fin.empty) c.new-2.ensures
    ∙ joined_empty
