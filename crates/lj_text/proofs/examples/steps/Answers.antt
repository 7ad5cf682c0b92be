use Rattle.std.proofs.Common.{◌≡◌, refl}
use Rattle.std.specs.Prelude.{true, false, cond, ◌&&◌, ◌||◌, ◌==◌, List, [], ◌∷◌, pos, negsuc, is_some, Some, None}
use Rattle.lj_clause.specs.Listed.{ListedClause, listed_clauses}
use Rattle.lj_clause.specs.Examples.{group}
use Rattle.lj_text.specs.Examples.{add}
use Rattle.lj_text.specs.Steps.{is_accepted}
use Rattle.lj_clause.specs.Lemma.{lemma_of}
use Rattle.lj_text.proofs.Evaluation.{closed_accepted, not_in_place, deletion-listed, len-listed}
use Rattle.lj_text.proofs.examples.steps.Goals as goal

abbrev four : List ListedClause
four = (1, pos 1 ∷ pos 2 ∷ []) ∷ (2, negsuc 0 ∷ pos 2 ∷ []) ∷ (3, pos 1 ∷ negsuc 1 ∷ []) ∷ (4, negsuc 0 ∷ negsuc 1 ∷ []) ∷ []

abbrev three : List ListedClause
three = (1, negsuc 0 ∷ pos 2 ∷ []) ∷ (2, pos 2 ∷ pos 3 ∷ []) ∷ (3, negsuc 0 ∷ negsuc 2 ∷ []) ∷ []

first : is_accepted (listed_clauses four) (add 5 (pos 2 ∷ []) (1 ∷ 2 ∷ []) []) ≡ true
first = closed_accepted four 5 (pos 2 ∷ []) (1 ∷ 2 ∷ []) [] (1 ∷ 2 ∷ []) refl refl

second : is_accepted (listed_clauses ((5, pos 2 ∷ []) ∷ four)) (add 6 [] (5 ∷ 3 ∷ 4 ∷ []) []) ≡ true
second = closed_accepted ((5, pos 2 ∷ []) ∷ four) 6 [] (5 ∷ 3 ∷ 4 ∷ []) [] (5 ∷ 3 ∷ 4 ∷ []) refl refl

pub returns : goal.returns
returns c = record {
  refuted = λ i. is_some (cond (first i) (cond (second i) (Some (listed_clauses ((6, []) ∷ (5, pos 2 ∷ []) ∷ four))) None) None) && ((len-listed (pos 2 ∷ []) i == 0) || ((len-listed [] i == 0) || false));
  not_yet = λ i. is_some (cond (first i) (Some (listed_clauses ((5, pos 2 ∷ []) ∷ four))) None) && ((len-listed (pos 2 ∷ []) i == 0) || false);
  group_repeated = not_in_place three (record { number = 4; lemma = lemma_of (pos 1 ∷ pos 3 ∷ []); hints = []; groups = group 1 (2 ∷ []) ∷ group 1 (2 ∷ []) ∷ [] }) refl;
  number_taken = not_in_place four (record { number = 4; lemma = lemma_of (pos 2 ∷ []); hints = 1 ∷ 2 ∷ []; groups = [] }) refl;
  unknown_number = not_in_place four (record { number = 5; lemma = lemma_of (pos 2 ∷ []); hints = 1 ∷ 2 ∷ 9 ∷ []; groups = [] }) refl;
  unknown_deletion = deletion-listed four (1 ∷ 9 ∷ []);
}
