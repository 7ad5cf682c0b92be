use Rattle.std.proofs.Common.{ap, sym, ◌∙◌, subst}
use Rattle.std.specs.FinMap as fin
use Rattle.lj_book.specs.inner.Slots.{joined_map, AreDisjoint}
use Rattle.lj_book.proofs.Slots.{insert_sparse, apart-insert_sparse, either_way, ok_then, neither_dense}
use Rattle.lj_book.proofs.early_table.EarlyTable.insert.Goals as goal

pub invariant_of-self : goal.invariant_of-self
invariant_of-self c =
    let opened = c.self.inside.opened in
    let anew = c.self.inside.anew in
    let absent = neither_dense opened anew c.args.self.now c.args.own c.self.view_is c.requires in
    either_way c.insert.result _ _ _ c.insert.ensures.ok c.insert.ensures.err
    (λ e. subst (AreDisjoint opened) (sym e) (apart-insert_sparse opened anew c.args.own c.args.joint c.self.invariant absent))
    (λ e. subst (AreDisjoint opened) (sym e) c.self.invariant)

pub returns-clause-ok : goal.returns-clause-ok
returns-clause-ok c =
    let absent = neither_dense c.self.inside.opened c.self.inside.anew c.args.self.now c.args.own c.self.view_is c.requires in
    ok_then c.insert.result _ _ c.insert.ensures.ok (λ e. ap (joined_map c.self.inside.opened) e
    ∙ insert_sparse c.self.inside.opened c.self.inside.anew c.args.own c.args.joint absent
    ∙ ap (λ m. fin.insert m c.args.own c.args.joint) c.self.view_is)
