use Rattle.std.proofs.Common.{sym, ap, ◌∙◌}
use Rattle.lj_clause.specs.LiteralSet.{literals}
use Rattle.lj_clause.proofs.LiteralSets.{literals-from_literals}
use Rattle.lj_clause.proofs.clause_view.ClauseView.lits.Goals as goal

pub returns : goal.returns
returns c = sym (literals-from_literals c.self.inside.lits.now c.self.invariant) ∙ ap literals c.self.view_is
