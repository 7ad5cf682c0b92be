use Rattle.std.specs.Prelude.{List, [], ◌∷◌, pos, negsuc}
use Rattle.lj_clause.specs.Listed.{ListedClause}
use Rattle.std.proofs.Common.{◌∙◌, ap, sym}
use Rattle.std.specs.List.{list_any}
use Rattle.std.specs.Ordering.{eq_by_cmp}
use Rattle.lj_clause.specs.Literal.{lit_cmp}
use Rattle.lj_clause.specs.Propagation.{Open}
use Rattle.lj_clause.proofs.LiteralSets.{from_literals-same, or_twice}
use Rattle.lj_clause.proofs.Evaluation.{propagate-evaluated}
use Rattle.lj_clause.proofs.examples.propagations.Goals as goal

four : List ListedClause
four = (1, pos 1 ∷ pos 2 ∷ []) ∷ (2, negsuc 0 ∷ pos 2 ∷ []) ∷ (3, pos 1 ∷ negsuc 1 ∷ []) ∷ (4, negsuc 0 ∷ negsuc 1 ∷ []) ∷ (5, pos 2 ∷ []) ∷ []

pub returns : goal.returns
unfolding four
returns c = record {
  closed_early = propagate-evaluated four (pos 2 ∷ []) (1 ∷ 2 ∷ 3 ∷ []);
  empty_clause = propagate-evaluated four [] (5 ∷ 3 ∷ 4 ∷ []);
  stuck_first = propagate-evaluated four (pos 2 ∷ []) (3 ∷ 1 ∷ []);
  stuck_second = propagate-evaluated four (pos 2 ∷ []) (1 ∷ 3 ∷ []);
  unit_again = propagate-evaluated four (pos 2 ∷ []) (1 ∷ 1 ∷ []) ∙ ap Open (from_literals-same (pos 1 ∷ pos 1 ∷ negsuc 1 ∷ []) (pos 1 ∷ negsuc 1 ∷ []) (λ q. sym (or_twice (eq_by_cmp lit_cmp q (pos 1)) (list_any (eq_by_cmp lit_cmp q) (negsuc 1 ∷ [])))));
  tautology = propagate-evaluated four (pos 1 ∷ negsuc 0 ∷ []) (1 ∷ []);
  empty_open = propagate-evaluated four [] [];
  no_such_clause = propagate-evaluated four (pos 2 ∷ []) (1 ∷ 9 ∷ []);
}
