use Rattle.std.proofs.Common.{sym, ap, ◌∙◌}
use Rattle.lj_clause.specs.LiteralSet.{literals}
use Rattle.lj_clause.specs.inner.LiteralList.{literals_in}
use Rattle.lj_clause.proofs.LiteralSets.{literals-from_literals}
use Rattle.lj_clause.proofs.clause.Clause.lits.Goals as goal

pub returns : goal.returns
returns c = c.as_slice.ensures ∙ sym (literals-from_literals (literals_in c.self.inside.lits) c.self.invariant) ∙ ap literals c.self.view_is
