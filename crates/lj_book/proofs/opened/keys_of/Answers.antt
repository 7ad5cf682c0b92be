use Rattle.std.proofs.Common.{◌≡◌, ap, sym, ◌∙◌, subst, ◌++◌, ◌+◌, ◌<◌, ◌≤◌, true, ℕ, Bool, append-nil}
use Rattle.std.specs.Prelude.{[], ◌∷◌, drop, length, slice_index_or, is_some, Option, Some, None, List, if◌then◌else◌}
use Rattle.std.proofs.lemmas.List.{append_assoc}
use Rattle.lj_book.specs.inner.Slots.{slot_numbers}
use Rattle.lj_book.specs.inner.Opened.{opened_slots}
use Rattle.lj_book.proofs.Slots.{get_slot, slot_within, keys-taken, keys-passed, numbers-end, slot_keys_are}
use Rattle.lj_book.proofs.OpenedLaws.{opened-length}
use Rattle.lj_book.proofs.opened.keys_of.Goals as goal
use Rattle.lj_book.proofs.opened.keys_of.Goals.{then-is_kept+in_ok-push, else-is_kept}

pub loop-at-preserved : goal.loop-at-preserved
loop-at-preserved c =
    let xs = opened_slots 0 c.args.given_up.now c.args.end in
    let k = c.loop-at.at in
    let there : k < length xs = subst (λ (n : ℕ). k < n) (sym (opened-length 0 c.args.given_up.now c.args.end)) c.loop-at-test.true in
    let x : Option ℕ = if c.is_kept.result then Some k else None in
    let held : x ≡ slice_index_or xs k x = sym c.is_kept.ensures ∙ get_slot xs k ∙ slot_within xs k x there in
    let later = slot_numbers (λ _. true) (k + 1) (drop (k + 1) xs) in
    elim c.if-is_kept.branch [
      | then-is_kept+in_ok-push w ↦
          ap (λ ks. ks ++ later) (ap (λ v. v.items) w.keys-is ∙ w.in_ok-push.ensures.items)
          ∙ append_assoc c.loop-at.keys.items (k ∷ []) later
          ∙ ap (λ ks. c.loop-at.keys.items ++ ks) (sym (keys-taken xs k x there held (ap (λ (b : Bool). is_some (if b then Some k else None)) w.if-is_kept.true)))
          ∙ c.loop-at.invariant
      | else-is_kept w ↦
          ap (λ ks. ks ++ later) (ap (λ v. v.items) w.keys-is)
          ∙ ap (λ ks. c.loop-at.keys.items ++ ks) (keys-passed xs k x there held (ap (λ (b : Bool). is_some (if b then Some k else None)) w.if-is_kept.false))
          ∙ c.loop-at.invariant
    ]

pub returns : goal.returns
returns c =
    let xs = opened_slots 0 c.args.given_up.now c.args.end in
    let end = subst (λ (n : ℕ). n ≤ c.loop-at.at) (sym (opened-length 0 c.args.given_up.now c.args.end)) c.loop-at-test.false in
    sym (append-nil c.loop-at.keys.items)
    ∙ ap (λ (ks : List ℕ). c.loop-at.keys.items ++ ks) (sym (numbers-end (λ _. true) xs c.loop-at.at end))
    ∙ c.loop-at.invariant
    ∙ slot_keys_are xs
