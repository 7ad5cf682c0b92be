use Rattle.std.proofs.Common.{sym, ap, ◌∙◌}
use Rattle.lj_clause.specs.LiteralSet.{literals}
use Rattle.lj_clause.proofs.LiteralSets.{same_literals}
use Rattle.lj_clause.proofs.clause_view.ClauseView.same.Goals as goal

pub returns : goal.returns
returns c = (
  λ yes. same_literals c.args.self.now c.args.other.now (sym c.lits.ensures ∙ c.are_same.ensures.0 yes ∙ c.lits-2.ensures),
  λ e. c.are_same.ensures.1 (c.lits.ensures ∙ ap literals e ∙ sym c.lits-2.ensures),
)
