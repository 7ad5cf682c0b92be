use Rattle.std.specs.Prelude.{[], ◌∷◌, pos, negsuc}
use Rattle.lj_clause.specs.Examples.{group}
use Rattle.lj_text.specs.Examples.{four_binary_formula}
use Rattle.lj_text.proofs.Evaluation.{Adds, Deletes, trimmed-evaluated}
use Rattle.lj_text.proofs.examples.trimmed_lists.Goals as goal

pub returns : goal.returns
returns c = record {
  unneeded_lemma = trimmed-evaluated (four_binary_formula 2) (Adds 5 (pos 2 ∷ []) (1 ∷ 2 ∷ []) [] ∷ Adds 6 (pos 1 ∷ []) (1 ∷ 3 ∷ []) [] ∷ Adds 7 [] (5 ∷ 3 ∷ 4 ∷ []) [] ∷ []);
  group_and_deletion = trimmed-evaluated (four_binary_formula 3) (Adds 5 (negsuc 2 ∷ pos 1 ∷ pos 2 ∷ []) (1 ∷ []) [] ∷ Adds 6 (pos 3 ∷ pos 1 ∷ []) [] (group 5 (1 ∷ []) ∷ []) ∷ Adds 7 (pos 1 ∷ []) (6 ∷ 1 ∷ 3 ∷ []) [] ∷ Deletes (3 ∷ 5 ∷ []) ∷ Adds 8 [] (7 ∷ 2 ∷ 4 ∷ []) [] ∷ []);
}
