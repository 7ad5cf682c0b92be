use Rattle.std.proofs.Common.{ap, sym, ◌∙◌}
use Rattle.std.specs.FinMap as fin
use Rattle.lj_book.specs.inner.Slots.{held_map}
use Rattle.lj_book.proofs.Slots.{joined_dense, joined_sparse}
use Rattle.lj_book.proofs.slot_map.SlotMap.get.Goals as goal

pub returns-in-Some : goal.returns-in-Some
returns-in-Some g c =
    let dense = held_map g.S.Slot.held c.self.inside.slots.items in
    let there = ap (λ xs. fin.get (held_map g.S.Slot.held xs) c.args.key) (sym c.deref.ensures.value) ∙ sym c.value_at.ensures ∙ c.in-Some.is in
    sym (joined_dense dense c.self.inside.sparse c.args.key _ there) ∙ ap (λ m. fin.get m c.args.key) c.self.view_is

pub returns-in-None : goal.returns-in-None
returns-in-None g c =
    let dense = held_map g.S.Slot.held c.self.inside.slots.items in
    let absent = ap (λ xs. fin.get (held_map g.S.Slot.held xs) c.args.key) (sym c.deref.ensures.value) ∙ sym c.value_at.ensures ∙ c.in-None.is in
    c.copied.ensures ∙ c.get.ensures
    ∙ sym (joined_sparse dense c.self.inside.sparse c.args.key absent) ∙ ap (λ m. fin.get m c.args.key) c.self.view_is
