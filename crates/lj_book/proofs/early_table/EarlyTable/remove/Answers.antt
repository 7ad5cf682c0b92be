use Rattle.std.proofs.Common.{ap, sym, ◌∙◌, subst, Some, None, Bool}
use Rattle.std.specs.Prelude.{is_some, if◌then◌else◌}
use Rattle.std.specs.FinMap as fin
use Rattle.lj_book.specs.inner.Slots.{joined_map, AreDisjoint}
use Rattle.lj_book.proofs.Slots.{joined_dense, joined_sparse, remove_dense, remove_sparse, apart-remove_dense, apart-remove_sparse}
use Rattle.lj_book.proofs.early_table.EarlyTable.remove.Goals as goal

pub invariant_of-self : goal.invariant_of-self
invariant_of-self c =
    subst (λ m. AreDisjoint m c.self.inside.anew) (sym c.remove.ensures)
    (apart-remove_dense c.self.inside.opened c.self.inside.anew c.args.own c.self.invariant)

pub returns-then-holds-clause-before : goal.returns-then-holds-clause-before
returns-then-holds-clause-before c =
    let there = c.holds.ensures ∙ ap (λ (b : Bool). if b then Some c.args.own else None) c.if-holds.true in
    sym (joined_dense c.self.inside.opened c.self.inside.anew c.args.own c.args.own there) ∙ ap (λ m. fin.get m c.args.own) c.self.view_is

pub returns-then-holds-clause-removed : goal.returns-then-holds-clause-removed
returns-then-holds-clause-removed c =
    let there = c.holds.ensures ∙ ap (λ (b : Bool). if b then Some c.args.own else None) c.if-holds.true in
    let apart = c.self.invariant c.args.own (ap is_some there) in
    ap (λ m. joined_map m c.self.inside.anew) c.remove.ensures
    ∙ remove_dense c.self.inside.opened c.self.inside.anew c.args.own apart
    ∙ ap (λ m. fin.remove m c.args.own) c.self.view_is

pub invariant_of-self-2 : goal.invariant_of-self-2
invariant_of-self-2 c =
    subst (λ m. AreDisjoint c.self.inside.opened m) (sym c.remove-2.ensures.removed)
    (apart-remove_sparse c.self.inside.opened c.self.inside.anew c.args.own c.self.invariant)

pub returns-clause-before : goal.returns-clause-before
returns-clause-before c =
    let absent = c.holds.ensures ∙ ap (λ (b : Bool). if b then Some c.args.own else None) c.if-holds.false in
    c.remove-2.ensures.before ∙ sym (joined_sparse c.self.inside.opened c.self.inside.anew c.args.own absent) ∙ ap (λ m. fin.get m c.args.own) c.self.view_is

pub returns-clause-removed : goal.returns-clause-removed
returns-clause-removed c =
    let absent = c.holds.ensures ∙ ap (λ (b : Bool). if b then Some c.args.own else None) c.if-holds.false in
    ap (joined_map c.self.inside.opened) c.remove-2.ensures.removed
    ∙ remove_sparse c.self.inside.opened c.self.inside.anew c.args.own absent
    ∙ ap (λ m. fin.remove m c.args.own) c.self.view_is
