use Rattle.std.proofs.Common.{ap, sym, ◌∙◌}
use Rattle.std.specs.Prelude.{List, ℤ}
use Rattle.lj_clause.specs.LiteralSet.{from_literals}
use Rattle.lj_clause.specs.Propagation.{is_contradictory}
use Rattle.lj_hint.proofs.Contradictions.{is_contradictory-no_literals}
use Rattle.lj_hint.proofs.assignment.Assignment.clear.Goals as goal

pub invariant_of-self : goal.invariant_of-self
invariant_of-self c = sym (ap (λ (ls : List ℤ). is_contradictory (from_literals ls)) c.clear.ensures ∙ is_contradictory-no_literals)
