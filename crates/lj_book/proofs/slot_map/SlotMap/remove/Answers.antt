use Rattle.std.proofs.Common.{ap, sym, ◌∙◌}
use Rattle.std.specs.FinMap as fin
use Rattle.lj_book.specs.inner.Slots.{joined_map, held_map}
use Rattle.lj_book.proofs.Slots.{joined_dense, joined_sparse, remove_both}
use Rattle.lj_book.proofs.slot_map.SlotMap.remove.Goals as goal
use Rattle.lj_book.proofs.slot_map.SlotMap.remove.Goals.{in-Some, in-None}

pub returns-clause-before : goal.returns-clause-before
returns-clause-before g c =
    let dense = held_map g.S.Slot.held c.self.inside.slots.items in
    let sparse = c.self.inside.sparse in
    let now = ap (λ m. fin.get m c.args.key) c.self.view_is in
    elim c.match-take.branch [
      | in-Some w ↦ w.result-is ∙ sym (joined_dense dense sparse c.args.key _ (sym c.take.ensures.before ∙ w.in-Some.is)) ∙ now
      | in-None w ↦ w.result-is ∙ c.remove-sparse.ensures.before ∙ sym (joined_sparse dense sparse c.args.key (sym c.take.ensures.before ∙ w.in-None.is)) ∙ now
    ]

pub returns-clause-removed : goal.returns-clause-removed
returns-clause-removed g c =
    let dense = held_map g.S.Slot.held c.self.inside.slots.items in
    ap (λ m. joined_map m c.remove-sparse.new.self) c.take.ensures.removed
    ∙ ap (joined_map (fin.remove dense c.args.key)) c.remove-sparse.ensures.removed
    ∙ remove_both dense c.self.inside.sparse c.args.key
    ∙ ap (λ m. fin.remove m c.args.key) c.self.view_is
