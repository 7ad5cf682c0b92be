use Rattle.std.proofs.Common.{ap, sym, ◌∙◌, Some, None, Bool}
use Rattle.std.specs.Prelude.{if◌then◌else◌}
use Rattle.std.specs.FinMap as fin
use Rattle.lj_book.proofs.Slots.{joined_dense, joined_sparse}
use Rattle.lj_book.proofs.early_table.EarlyTable.get.Goals as goal

pub returns-then-holds : goal.returns-then-holds
returns-then-holds c =
    let there = c.holds.ensures ∙ ap (λ (b : Bool). if b then Some c.args.own else None) c.if-holds.true in
    sym (joined_dense c.self.inside.opened c.self.inside.anew c.args.own c.args.own there) ∙ ap (λ m. fin.get m c.args.own) c.self.view_is

pub returns : goal.returns
returns c =
    let absent = c.holds.ensures ∙ ap (λ (b : Bool). if b then Some c.args.own else None) c.if-holds.false in
    c.number.ensures ∙ sym (joined_sparse c.self.inside.opened c.self.inside.anew c.args.own absent) ∙ ap (λ m. fin.get m c.args.own) c.self.view_is
