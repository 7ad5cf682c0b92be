use Rattle.std.proofs.Common.{ap, sym, ◌∙◌, subst, arith, ◌-◌, ◌^◌, ◌<◌}
use Rattle.std.specs.FinMap as fin
use Rattle.lj_book.specs.inner.Slots.{joined_map, shifted, AreBefore}
use Rattle.lj_book.proofs.Slots.{insert_dense, either_way, ok_then}
use Rattle.lj_book.proofs.Bounds.{before-insert}
use Rattle.lj_book.proofs.Shifts.{early_get, late_insert}
use Rattle.lj_book.proofs.seat_table.SeatTable.insert.Goals as goal

pub invariant_of-self : goal.invariant_of-self
invariant_of-self c =
    let end = c.self.inside.end in
    let late = c.self.inside.late in
    let capacity : c.args.own - end < 2 ^ 64 - end = omega (arith, c.if-own-self.true, c.ranges.own) in
    either_way c.insert.result _ _ _ c.insert.ensures.ok c.insert.ensures.err
    (λ e. (c.self.invariant.0, subst (AreBefore (2 ^ 64 - end)) (sym e) (before-insert (2 ^ 64 - end) late (c.args.own - end) c.args.joint capacity c.self.invariant.1)))
    (λ e. (c.self.invariant.0, subst (AreBefore (2 ^ 64 - end)) (sym e) c.self.invariant.1))

pub returns-then-own-self-clause-ok : goal.returns-then-own-self-clause-ok
returns-then-own-self-clause-ok c =
    let early = c.self.inside.early in
    let end = c.self.inside.end in
    ok_then c.insert.result _ _ c.insert.ensures.ok (λ e. ap (λ m. joined_map early (shifted end m)) e
    ∙ late_insert end c.args.own early c.self.inside.late c.args.joint c.self.invariant.0 c.if-own-self.true
    ∙ ap (λ m. fin.insert m c.args.own c.args.joint) c.self.view_is)

pub insert-requires-2 : goal.insert-requires-2
insert-requires-2 c =
    sym (early_get c.self.inside.end c.args.own c.self.inside.early c.self.inside.late c.if-own-self.false)
    ∙ ap (λ m. fin.get m c.args.own) c.self.view_is
    ∙ c.requires

pub invariant_of-self-2 : goal.invariant_of-self-2
invariant_of-self-2 c =
    let end = c.self.inside.end in
    let early = c.self.inside.early in
    either_way c.insert-2.result _ _ _ c.insert-2.ensures.ok c.insert-2.ensures.err
    (λ e. (subst (AreBefore end) (sym e) (before-insert end early c.args.own c.args.joint c.if-own-self.false c.self.invariant.0), c.self.invariant.1))
    (λ e. (subst (AreBefore end) (sym e) c.self.invariant.0, c.self.invariant.1))

pub returns-clause-ok : goal.returns-clause-ok
returns-clause-ok c =
    let late = shifted c.self.inside.end c.self.inside.late in
    ok_then c.insert-2.result _ _ c.insert-2.ensures.ok (λ e. ap (λ m. joined_map m late) e
    ∙ insert_dense c.self.inside.early late c.args.own c.args.joint
    ∙ ap (λ m. fin.insert m c.args.own c.args.joint) c.self.view_is)
