use Rattle.std.proofs.Common.{ap, sym, ◌∙◌}
use Rattle.std.specs.FinMap as fin
use Rattle.lj_book.proofs.Shifts.{late_get, early_get}
use Rattle.lj_book.proofs.seat_table.SeatTable.get.Goals as goal

pub returns-then-own-self : goal.returns-then-own-self
returns-then-own-self c =
    c.get.ensures
    ∙ sym (late_get c.self.inside.end c.args.own c.self.inside.early c.self.inside.late c.self.invariant.0 c.if-own-self.true)
    ∙ ap (λ m. fin.get m c.args.own) c.self.view_is

pub returns : goal.returns
returns c =
    c.get-2.ensures
    ∙ sym (early_get c.self.inside.end c.args.own c.self.inside.early c.self.inside.late c.if-own-self.false)
    ∙ ap (λ m. fin.get m c.args.own) c.self.view_is
