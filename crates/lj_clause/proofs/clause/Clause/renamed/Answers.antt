use Rattle.std.proofs.Common.{◌≡◌, ap, sym, subst, ◌∙◌}
use Rattle.std.specs.Prelude.{map, IfOk}
use Rattle.lj_clause.specs.LiteralSet.{LiteralSet, from_literals}
use Rattle.lj_clause.specs.Renaming.{literal_image, image}
use Rattle.lj_clause.proofs.LiteralSets.{from_literals-literals}
use Rattle.lj_clause.proofs.clause.Clause.renamed.Goals as goal

pub returns-then-all_stay : goal.returns-then-all_stay
returns-then-all_stay g c =
    let r = literal_image (g.R.Renames.renaming c.args.renaming.now) in
    let stays : image (g.R.Renames.renaming c.args.renaming.now) c.args.self.now ≡ c.args.self.now =
    ap (λ ls. from_literals (map r ls)) (sym c.lits.ensures) ∙ ap from_literals (c.all_stay.ensures c.if-all_stay.true ∙ c.lits.ensures) ∙ from_literals-literals c.args.self.now in
    subst (λ (s : LiteralSet). IfOk c.try_clone.result (λ clause. clause ≡ s)) (sym stays) c.try_clone.ensures
