use Rattle.std.proofs.Common.{ap, ◌∙◌}
use Rattle.std.specs.FinMap as fin
use Rattle.lj_book.specs.inner.Slots.{joined_map, held_map}
use Rattle.lj_book.proofs.Slots.{insert_beside}
use Rattle.lj_book.proofs.slot_map.SlotMap.insert_sparse.Goals as goal

pub returns-clause-ok : goal.returns-clause-ok
returns-clause-ok g c =
    let dense = held_map g.S.Slot.held c.self.inside.slots.items in
    ap (λ m. joined_map m c.insert.new.self) c.take.ensures.removed
    ∙ ap (joined_map (fin.remove dense c.args.key)) c.in_ok-insert.ensures.ok
    ∙ insert_beside dense c.self.inside.sparse c.args.key c.args.value
    ∙ ap (λ m. fin.insert m c.args.key c.args.value) c.self.view_is
