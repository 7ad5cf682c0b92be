use Rattle.std.proofs.Common.{ap, sym, ◌∙◌, subst}
use Rattle.std.specs.FinMap as fin
use Rattle.lj_book.specs.inner.Slots.{joined_map, AreDisjoint}
use Rattle.lj_book.proofs.Slots.{joined_sparse, insert_dense, insert_sparse, apart-insert_dense, apart-insert_sparse, either_way, ok_then, err_then}
use Rattle.lj_book.proofs.own_map.OwnMap.insert.Goals as goal

pub invariant_of-self : goal.invariant_of-self
invariant_of-self g c =
    let dense = c.self.inside.dense in
    let sparse = c.self.inside.sparse in
    let absent = c.is_sparse.ensures.sparse c.if-is_sparse.true in
    either_way c.insert.result _ _ _ c.insert.ensures.ok c.insert.ensures.err
    (λ e. subst (AreDisjoint dense) (sym e) (apart-insert_sparse dense sparse c.args.key c.args.value c.self.invariant absent))
    (λ e. subst (AreDisjoint dense) (sym e) c.self.invariant)

pub returns-then-is_sparse-clause-ok : goal.returns-then-is_sparse-clause-ok
returns-then-is_sparse-clause-ok g c =
    let absent = c.is_sparse.ensures.sparse c.if-is_sparse.true in
    ok_then c.insert.result _ _ c.insert.ensures.ok (λ e. ap (joined_map c.self.inside.dense) e
    ∙ insert_sparse c.self.inside.dense c.self.inside.sparse c.args.key c.args.value absent
    ∙ ap (λ m. fin.insert m c.args.key c.args.value) c.self.view_is)

pub returns-then-is_sparse-clause-absent : goal.returns-then-is_sparse-clause-absent
returns-then-is_sparse-clause-absent g c =
    let absent = c.is_sparse.ensures.sparse c.if-is_sparse.true in
    err_then c.insert.result _ _ c.insert.ensures.absent (λ e. ap (λ m. fin.get m c.args.key) (sym c.self.view_is)
    ∙ joined_sparse c.self.inside.dense c.self.inside.sparse c.args.key absent ∙ e)

pub invariant_of-self-2 : goal.invariant_of-self-2
invariant_of-self-2 g c =
    let dense = c.self.inside.dense in
    let sparse = c.self.inside.sparse in
    let absent = c.is_sparse.ensures.dense c.if-is_sparse.false in
    either_way c.insert-2.result _ _ _ c.insert-2.ensures.ok c.insert-2.ensures.err
    (λ e. subst (λ m. AreDisjoint m sparse) (sym e) (apart-insert_dense dense sparse c.args.key c.args.value c.self.invariant absent))
    (λ e. subst (λ m. AreDisjoint m sparse) (sym e) c.self.invariant)

pub returns-clause-ok : goal.returns-clause-ok
returns-clause-ok g c =
    ok_then c.insert-2.result _ _ c.insert-2.ensures.ok (λ e. ap (λ m. joined_map m c.self.inside.sparse) e
    ∙ insert_dense c.self.inside.dense c.self.inside.sparse c.args.key c.args.value
    ∙ ap (λ m. fin.insert m c.args.key c.args.value) c.self.view_is)

pub returns-clause-absent : goal.returns-clause-absent
returns-clause-absent g c =
    let absent = c.is_sparse.ensures.dense c.if-is_sparse.false in
    err_then c.insert-2.result _ _ c.insert-2.ensures.absent (λ e. ap (λ m. fin.get m c.args.key) (sym c.self.view_is)
    ∙ joined_sparse c.self.inside.dense c.self.inside.sparse c.args.key e ∙ absent)
