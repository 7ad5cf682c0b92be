use Rattle.std.proofs.Common.{◌≡◌, ap, ◌∙◌, ◌++◌, ℕ, List, true}
use Rattle.std.specs.Prelude.{map}
use Rattle.std.specs.FinMap as fin
use Rattle.lj_book.specs.Tables.{is_among}
use Rattle.lj_book.specs.inner.Slots.{held_map, slot_numbers}
use Rattle.lj_book.proofs.Slots.{joined_keys, slot_keys_are}
use Rattle.lj_book.proofs.slot_map.SlotMap.keys.Goals as goal

pub returns : goal.returns
returns g c =
    let slots = c.self.inside.slots.items in
    let dense : List ℕ = fin.keys (held_map g.S.Slot.held slots) in
    let sparse : List ℕ = fin.keys c.self.inside.sparse in
    let all : c.extend_from_slice.new.self.items ≡ dense ++ sparse =
    c.in_ok-extend_from_slice.ensures.items
    ∙ ap (λ (ks : List ℕ). ks ++ c.deref-2.result.now) (c.in_ok-keys.ensures ∙ ap (λ xs. slot_numbers (λ _. true) 0 (map g.S.Slot.held xs)) c.deref.ensures.value ∙ slot_keys_are (map g.S.Slot.held slots))
    ∙ ap (λ (ks : List ℕ). dense ++ ks) (c.deref-2.ensures.value ∙ c.in_ok-sparse.ensures) in
    joined_keys (held_map g.S.Slot.held slots) c.self.inside.sparse c.rising.result.items c.rising.ensures.rising (λ q. c.rising.ensures.same q ∙ ap (λ (ks : List ℕ). is_among ks q) all)
    ∙ ap fin.keys c.self.view_is
