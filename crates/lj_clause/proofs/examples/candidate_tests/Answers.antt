use Rattle.std.specs.Prelude.{List, [], ◌∷◌, ℤ, pos, negsuc}
use Rattle.lj_clause.specs.Listed.{ListedClause}
use Rattle.lj_clause.specs.Examples.{group}
use Rattle.lj_clause.proofs.Evaluation.{rat-evaluated}
use Rattle.lj_clause.proofs.examples.candidate_tests.Goals as goal

three : List ListedClause
three = (1, negsuc 0 ∷ pos 2 ∷ []) ∷ (2, pos 2 ∷ pos 3 ∷ []) ∷ (3, negsuc 0 ∷ negsuc 2 ∷ []) ∷ []

lemma : List ℤ
lemma = pos 1 ∷ pos 3 ∷ []

pub returns : goal.returns
unfolding three lemma
returns c = record {
  missing = rat-evaluated three lemma (pos 1) [];
  left_open = rat-evaluated three lemma (pos 1) (group 1 [] ∷ []);
  stuck = rat-evaluated three lemma (pos 1) (group 1 (3 ∷ []) ∷ []);
  covered = rat-evaluated three lemma (pos 1) (group 1 (2 ∷ []) ∷ []);
  not_tested = rat-evaluated three lemma (pos 1) (group 1 (2 ∷ []) ∷ group 2 [] ∷ []);
}
