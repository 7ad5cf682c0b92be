use Rattle.std.proofs.Common.{ap, ◌∙◌, ◌+◌, length}
use Rattle.std.specs.Prelude.{◌∷◌, []}
use Rattle.std.proofs.lemmas.List.{length-append}
use Rattle.lj_book.specs.inner.Slots.{held_map}
use Rattle.lj_book.proofs.HeldSlots.{held_pushed}
use Rattle.lj_book.proofs.slot_map.cover.Goals as goal

pub loop-preserved : goal.loop-preserved
loop-preserved g c =
    let xs = c.loop.slots.items in (
      ap (held_map g.S.Slot.held) c.in_ok-push.ensures.items ∙ held_pushed g.S.Slot.held xs c.empty.result c.empty.ensures ∙ c.loop.invariant.0,
      ap length c.in_ok-push.ensures.items ∙ length-append xs (c.empty.result ∷ []) ∙ ap (λ n. n + 1) c.loop.invariant.1,
    )

pub returns-in_ok-push-clause-same : goal.returns-in_ok-push-clause-same
returns-in_ok-push-clause-same g c =
    ap (held_map g.S.Slot.held) c.in_ok-push.ensures.items ∙ held_pushed g.S.Slot.held c.loop.slots.items c.empty.result c.empty.ensures ∙ c.loop.invariant.0
