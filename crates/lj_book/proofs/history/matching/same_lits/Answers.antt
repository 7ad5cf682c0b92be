use Rattle.std.proofs.Common.{sym, ap, ◌∙◌}
use Rattle.std.specs.Ordering.{eq_by_cmp}
use lib.Pointwise.{pointwise}
use Rattle.lj_clause.specs.Literal.{lit_cmp}
use Rattle.lj_clause.proofs.LiteralSets.{pointwise_same, pointwise_itself}
use Rattle.lj_book.proofs.history.matching.same_lits.Goals as goal

pub returns : goal.returns
returns c =
    let xs = c.args.lits.now in
    let ys = c.args.others.now in (
      λ yes. pointwise_same xs ys (sym c.eq.ensures ∙ yes),
      λ e. c.eq.ensures ∙ ap (pointwise (eq_by_cmp lit_cmp) xs) (sym e) ∙ pointwise_itself xs,
    )
