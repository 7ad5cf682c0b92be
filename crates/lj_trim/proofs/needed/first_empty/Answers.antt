use Rattle.std.proofs.Common.{◌∙◌, sym}
use Rattle.lj_trim.proofs.FrontLemmas.{up_to-found}
use Rattle.lj_trim.proofs.needed.first_empty.Goals as goal

pub returns-then-adds_empty_clause-clause-some : goal.returns-then-adds_empty_clause-clause-some
returns-then-adds_empty_clause-clause-some c =
    (c.loop-position-test.true, up_to-found c.args.steps.now c.loop-position.position c.index-steps-position.result c.loop-position.invariant c.loop-position-test.true c.index-steps-position.is (sym c.adds_empty_clause.ensures ∙ c.if-adds_empty_clause.true))
