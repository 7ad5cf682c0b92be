use Rattle.std.proofs.Common.{ap, sym, ◌∙◌, subst, ◌-◌, ◌^◌}
use Rattle.std.specs.FinMap as fin
use Rattle.lj_book.specs.inner.Slots.{joined_map, shifted, AreBefore}
use Rattle.lj_book.proofs.Bounds.{before-remove}
use Rattle.lj_book.proofs.Shifts.{late_get, early_get, late_remove, early_remove}
use Rattle.lj_book.proofs.seat_table.SeatTable.remove.Goals as goal

pub invariant_of-self : goal.invariant_of-self
invariant_of-self c =
    let end = c.self.inside.end in
    (c.self.invariant.0, subst (AreBefore (2 ^ 64 - end)) (sym c.remove.ensures.removed) (before-remove (2 ^ 64 - end) c.self.inside.late (c.args.own - end) c.self.invariant.1))

pub returns-then-own-self-clause-before : goal.returns-then-own-self-clause-before
returns-then-own-self-clause-before c =
    c.remove.ensures.before
    ∙ sym (late_get c.self.inside.end c.args.own c.self.inside.early c.self.inside.late c.self.invariant.0 c.if-own-self.true)
    ∙ ap (λ m. fin.get m c.args.own) c.self.view_is

pub returns-then-own-self-clause-removed : goal.returns-then-own-self-clause-removed
returns-then-own-self-clause-removed c =
    let early = c.self.inside.early in
    let end = c.self.inside.end in
    ap (λ m. joined_map early (shifted end m)) c.remove.ensures.removed
    ∙ late_remove end c.args.own early c.self.inside.late c.self.invariant.0 c.if-own-self.true
    ∙ ap (λ m. fin.remove m c.args.own) c.self.view_is

pub invariant_of-self-2 : goal.invariant_of-self-2
invariant_of-self-2 c =
    let end = c.self.inside.end in
    (subst (AreBefore end) (sym c.remove-2.ensures.removed) (before-remove end c.self.inside.early c.args.own c.self.invariant.0), c.self.invariant.1)

pub returns-clause-before : goal.returns-clause-before
returns-clause-before c =
    c.remove-2.ensures.before
    ∙ sym (early_get c.self.inside.end c.args.own c.self.inside.early c.self.inside.late c.if-own-self.false)
    ∙ ap (λ m. fin.get m c.args.own) c.self.view_is

pub returns-clause-removed : goal.returns-clause-removed
returns-clause-removed c =
    let end = c.self.inside.end in
    ap (λ m. joined_map m (shifted end c.self.inside.late)) c.remove-2.ensures.removed
    ∙ early_remove end c.args.own c.self.inside.early c.self.inside.late c.if-own-self.false
    ∙ ap (λ m. fin.remove m c.args.own) c.self.view_is
