use Rattle.std.proofs.Common.{sym, ap, ◌∙◌}
use Rattle.lj_clause.specs.LiteralSet.{from_literals}
use Rattle.lj_clause.specs.inner.LiteralList.{literals_in}
use Rattle.lj_clause.proofs.LiteralSets.{rising_same}
use Rattle.lj_clause.proofs.clause.Clause.same.Goals as goal

pub returns : goal.returns
returns c =
    let xs = literals_in c.self.inside.lits in
    let ys = literals_in c.other.inside.lits in (
      λ yes. sym c.self.view_is ∙ ap from_literals (sym c.as_slice.ensures ∙ c.are_same.ensures.0 yes ∙ c.as_slice-2.ensures) ∙ c.other.view_is,
      λ e.
          let same = rising_same xs ys c.self.invariant c.other.invariant (c.self.view_is ∙ e ∙ sym c.other.view_is) in
          c.are_same.ensures.1 (c.as_slice.ensures ∙ same ∙ sym c.as_slice-2.ensures),
    )
