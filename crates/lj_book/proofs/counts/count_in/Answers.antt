use Rattle.std.proofs.Common.{sym, ◌∙◌}
use Rattle.lj_book.proofs.CountLaws.{slot_is, slot_none}
use Rattle.lj_book.proofs.counts.count_in.Goals as goal

pub returns-in-Some : goal.returns-in-Some
returns-in-Some c = c.in-Some.ensures.lookup.1 ∙ sym (slot_is c.args.slots.now c.args.at _ c.in-Some.ensures.lookup.3.0)

pub returns-in-None : goal.returns-in-None
returns-in-None c = sym (slot_none c.args.slots.now c.args.at c.in-None.ensures.lookup.3)
