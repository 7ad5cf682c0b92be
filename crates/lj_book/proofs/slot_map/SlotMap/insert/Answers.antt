use Rattle.std.proofs.Common.{ap, ◌∙◌}
use Rattle.std.specs.FinMap as fin
use Rattle.lj_book.specs.inner.Slots.{joined_map, held_map}
use Rattle.lj_book.proofs.Slots.{insert_dense, ok_then}
use Rattle.lj_book.proofs.slot_map.SlotMap.insert.Goals as goal

pub returns-in-Some-clause-ok : goal.returns-in-Some-clause-ok
returns-in-Some-clause-ok g c =
    let dense = held_map g.S.Slot.held c.self.inside.slots.items in
    ok_then c.put.result _ _ (c.put.ensures.ok c.args.value c.in-Some.ensures) (λ e. ap (λ m. joined_map m c.self.inside.sparse) e
    ∙ insert_dense dense c.self.inside.sparse c.args.key c.args.value
    ∙ ap (λ m. fin.insert m c.args.key c.args.value) c.self.view_is)
