use Rattle.std.proofs.Common.{ap, sym, ◌∙◌}
use Rattle.lj_book.proofs.HeldSlots.{get_held, get_held_past}
use Rattle.lj_book.proofs.slot_map.value_at.Goals as goal

pub returns-in-Some : goal.returns-in-Some
returns-in-Some g c =
    let xs = c.args.slots.now in
    c.value.ensures ∙ ap g.S.Slot.held c.in-Some.ensures.lookup.1
    ∙ sym (get_held g.S.Slot.held xs c.args.at _ c.in-Some.ensures.lookup.3.0)

pub returns-in-None : goal.returns-in-None
returns-in-None g c = sym (get_held_past g.S.Slot.held c.args.slots.now c.args.at c.in-None.ensures.lookup.3)
