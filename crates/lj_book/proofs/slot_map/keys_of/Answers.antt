use Rattle.std.proofs.Common.{ap, sym, ◌∙◌, ◌++◌, ◌+◌, true}
use Rattle.std.specs.Prelude.{[], ◌∷◌, drop, map}
use Rattle.std.proofs.lemmas.List.{append_assoc}
use Rattle.lj_book.specs.inner.Slots.{slot_numbers}
use Rattle.lj_book.proofs.Slots.{keys-taken, keys-passed}
use Rattle.lj_book.proofs.HeldSlots.{within, mapped_at}
use Rattle.lj_book.proofs.slot_map.keys_of.Goals as goal
use Rattle.lj_book.proofs.slot_map.keys_of.Goals.{then-is_some+in_ok-push, else-is_some}

pub loop-at-preserved : goal.loop-at-preserved
loop-at-preserved g c =
    let xs = map g.S.Slot.held c.args.slots.now in
    let k = c.loop-at.at in
    let later = slot_numbers (λ _. true) (k + 1) (drop (k + 1) xs) in
    let there = within g.S.Slot.held c.args.slots.now k c.loop-at-test.true in
    let is = c.value.ensures ∙ ap g.S.Slot.held c.index-slots-at.is ∙ sym (mapped_at g.S.Slot.held c.args.slots.now k c.index-slots-at.result c.value.result c.loop-at-test.true) in
    elim c.if-is_some.branch [
      | then-is_some+in_ok-push w ↦
          ap (λ ks. ks ++ later) (ap (λ v. v.items) w.keys-is ∙ w.in_ok-push.ensures.items)
          ∙ append_assoc c.loop-at.keys.items (k ∷ []) later
          ∙ ap (λ ks. c.loop-at.keys.items ++ ks) (sym (keys-taken xs k _ there is (sym c.is_some.ensures ∙ w.if-is_some.true)))
          ∙ c.loop-at.invariant
      | else-is_some w ↦
          ap (λ ks. ks ++ later) (ap (λ v. v.items) w.keys-is)
          ∙ ap (λ ks. c.loop-at.keys.items ++ ks) (keys-passed xs k _ there is (sym c.is_some.ensures ∙ w.if-is_some.false))
          ∙ c.loop-at.invariant
    ]
