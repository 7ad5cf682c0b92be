use Rattle.std.proofs.Common.{ap, sym, ◌∙◌, subst, arith, ◌+◌, ◌-◌, ◌^◌}
use Rattle.lj_book.specs.inner.Slots.{joined_map, shifted, AreBefore}
use Rattle.lj_book.proofs.Slots.{joined_none}
use Rattle.lj_book.proofs.Bounds.{before-empty}
use Rattle.lj_book.proofs.Shifts.{shifted-empty}
use Rattle.lj_book.proofs.TableLaws.{up_to-above}
use Rattle.lj_book.proofs.seat_table.SeatTable.up_to.Goals as goal

pub invariant_of-result : goal.invariant_of-result
invariant_of-result c =
    let last = c.args.last in
    let early : AreBefore (last + 1) c.in_ok-early.early = subst (AreBefore (last + 1)) (sym c.in_ok-early.ensures) (λ q h. up_to-above last q (omega (arith, h))) in
    (early, subst (AreBefore (2 ^ 64 - (last + 1))) (sym c.new.ensures) (before-empty (2 ^ 64 - (last + 1))))

pub returns : goal.returns
returns c =
    let early = c.in_ok-early.early in
    ap (λ m. joined_map early (shifted (c.args.last + 1) m)) c.new.ensures
    ∙ ap (joined_map early) (shifted-empty (c.args.last + 1))
    ∙ joined_none early
    ∙ c.in_ok-early.ensures
