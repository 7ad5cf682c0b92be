use Rattle.std.proofs.Common.{ap, sym, ◌∙◌, subst}
use Rattle.std.specs.Prelude.{is_some}
use Rattle.std.specs.FinMap as fin
use Rattle.lj_book.specs.inner.Slots.{joined_map, AreDisjoint}
use Rattle.lj_book.proofs.Slots.{joined_dense, joined_sparse, remove_absent, remove_dense, remove_sparse, apart-remove_dense, apart-remove_sparse}
use Rattle.lj_book.proofs.own_map.OwnMap.remove.Goals as goal

pub invariant_of-self : goal.invariant_of-self
invariant_of-self g c =
    subst (λ m. AreDisjoint m c.self.inside.sparse) (sym c.remove.ensures.removed)
    (apart-remove_dense c.self.inside.dense c.self.inside.sparse c.args.key c.self.invariant)

pub invariant_of-self-in-None : goal.invariant_of-self-in-None
invariant_of-self-in-None g c =
    subst (λ m. AreDisjoint c.remove.new.self m) (sym c.remove-in-None.ensures.removed)
    (apart-remove_sparse c.remove.new.self c.self.inside.sparse c.args.key
    (subst (λ m. AreDisjoint m c.self.inside.sparse) (sym c.remove.ensures.removed)
    (apart-remove_dense c.self.inside.dense c.self.inside.sparse c.args.key c.self.invariant)))

pub returns-in-Some-clause-before : goal.returns-in-Some-clause-before
returns-in-Some-clause-before g c =
    let there = sym c.remove.ensures.before ∙ c.in-Some.is in
    sym (joined_dense c.self.inside.dense c.self.inside.sparse c.args.key _ there) ∙ ap (λ m. fin.get m c.args.key) c.self.view_is

pub returns-in-Some-clause-removed : goal.returns-in-Some-clause-removed
returns-in-Some-clause-removed g c =
    let there = sym c.remove.ensures.before ∙ c.in-Some.is in
    let apart = c.self.invariant c.args.key (ap is_some there) in
    ap (λ m. joined_map m c.self.inside.sparse) c.remove.ensures.removed
    ∙ remove_dense c.self.inside.dense c.self.inside.sparse c.args.key apart
    ∙ ap (λ m. fin.remove m c.args.key) c.self.view_is

pub returns-in-None-clause-before : goal.returns-in-None-clause-before
returns-in-None-clause-before g c =
    let absent = sym c.remove.ensures.before ∙ c.in-None.is in
    c.remove-in-None.ensures.before ∙ sym (joined_sparse c.self.inside.dense c.self.inside.sparse c.args.key absent) ∙ ap (λ m. fin.get m c.args.key) c.self.view_is

pub returns-in-None-clause-removed : goal.returns-in-None-clause-removed
returns-in-None-clause-removed g c =
    let absent = sym c.remove.ensures.before ∙ c.in-None.is in
    ap (λ m. joined_map m c.remove-in-None.new.self) (c.remove.ensures.removed ∙ remove_absent c.self.inside.dense c.args.key absent)
    ∙ ap (joined_map c.self.inside.dense) c.remove-in-None.ensures.removed
    ∙ remove_sparse c.self.inside.dense c.self.inside.sparse c.args.key absent
    ∙ ap (λ m. fin.remove m c.args.key) c.self.view_is
