use Rattle.std.proofs.Common.{ap, ◌∙◌}
use Rattle.std.specs.FinMap as fin
use Rattle.lj_book.specs.inner.Slots.{slot_map}
use Rattle.lj_book.specs.inner.Opened.{opened_slots}
use Rattle.lj_book.proofs.Slots.{if_ok_then}
use Rattle.lj_book.proofs.opened.Opened.keys.Goals as goal

pub returns : goal.returns
returns c =
    if_ok_then c.keys_of.result _ _ c.keys_of.ensures (λ keys e. e
    ∙ ap (λ encoding. fin.keys (slot_map (opened_slots 0 encoding c.self.inside.end))) c.deref.ensures.value
    ∙ ap fin.keys c.self.view_is)
