use Rattle.std.proofs.Common.{◌≡◌, ap, ◌∙◌, arith, ℕ, suc, ◌+◌, true}
use Rattle.std.specs.Prelude.{[], ◌∷◌, ◌++◌}
use Rattle.lj_book.specs.inner.Slots.{slot_map}
use Rattle.lj_book.specs.inner.Opened.{opened_slots}
use Rattle.lj_book.proofs.OpenedLaws.{opened_up_to}
use Rattle.lj_book.proofs.opened.Opened.up_to.Goals as goal

pub returns : goal.returns
returns c =
    let more : c.args.last + 1 ≡ suc c.args.last = omega arith in
    ap (λ gone. slot_map (opened_slots 0 gone (c.args.last + 1))) (c.push_reserved.ensures.items ∙ ap (λ gone. gone ++ true ∷ []) c.in_ok-given_up.ensures.items)
    ∙ ap (λ (n : ℕ). slot_map (opened_slots 0 (true ∷ []) n)) more
    ∙ opened_up_to c.args.last
