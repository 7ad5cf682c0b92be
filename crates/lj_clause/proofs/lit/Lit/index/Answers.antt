use Rattle.std.proofs.Common.{ap, sym, ◌∙◌}
use Rattle.lj_clause.specs.declared.lit.Lit.TheInside.{Inside}
use Rattle.lj_clause.specs.Literal.{index_of}
use Rattle.lj_clause.specs.inner.LitCode.{literal_back}
use Rattle.lj_clause.proofs.lit.Lit.index.Goals as goal

pub returns-clause-index : goal.returns-clause-index
returns-clause-index c = sym (ap (λ (a : Inside). a.code) (literal_back c.self.inside c.self.invariant)) ∙ ap index_of c.self.view_is
