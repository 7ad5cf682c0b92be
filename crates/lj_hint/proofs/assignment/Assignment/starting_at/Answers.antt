use Rattle.std.proofs.Common.{ap, sym, ◌∙◌}
use Rattle.std.specs.Prelude.{List, ℤ}
use Rattle.lj_clause.specs.LiteralSet.{from_literals}
use Rattle.lj_clause.specs.Propagation.{is_contradictory}
use Rattle.lj_hint.proofs.Contradictions.{is_contradictory-no_literals}
use Rattle.lj_hint.proofs.assignment.Assignment.starting_at.Goals as goal

pub invariant_of-result : goal.invariant_of-result
invariant_of-result c = sym (ap (λ (ls : List ℤ). is_contradictory (from_literals ls)) c.starting_at.ensures ∙ is_contradictory-no_literals)
