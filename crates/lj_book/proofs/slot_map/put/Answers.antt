use Rattle.std.proofs.Common.{ap, ◌∙◌}
use Rattle.std.specs.FinMap as fin
use Rattle.lj_book.proofs.HeldSlots.{held_set}
use Rattle.lj_book.proofs.slot_map.put.Goals as goal

pub returns-clause-ok : goal.returns-clause-ok
returns-clause-ok g c = λ value is.
    held_set g.S.Slot.held c.cover.new.slots.items c.args.at c.args.slot value c.in_ok-cover.ensures.there is
    ∙ ap (λ m. fin.insert m c.args.at value) c.in_ok-cover.ensures.same
