-- Worked examples of propagations and of the test of candidates. Each outcome is computed by hand.
use Rattle.std.specs.Prelude.{◌≡◌, ℕ, List, [], ◌∷◌, ℤ, pos, negsuc}
use Rattle.lj_clause.specs.LiteralSet.{from_literals, negations}
use Rattle.lj_clause.specs.ClauseMap.{ClauseMap}
use Rattle.lj_clause.specs.Listed.{listed_clauses}
use Rattle.lj_clause.specs.Propagation.{Propagation, Closed, Open, Stuck, propagate}
use Rattle.lj_clause.specs.Rat.{RatAnswer, Covered, MissingGroup, GroupStuck, GroupOpen, HintGroup, rat}

-- -1, -2 and -3
abbrev not1 : ℤ
not1 = negsuc 0

-- -2
abbrev not2 : ℤ
not2 = negsuc 1

-- -3
abbrev not3 : ℤ
not3 = negsuc 2

-- the four binary clauses over two variables, and 2 as clause 5
abbrev pub four_binary : ClauseMap
four_binary = listed_clauses ((1, pos 1 ∷ pos 2 ∷ []) ∷ (2, not1 ∷ pos 2 ∷ []) ∷
    (3, pos 1 ∷ not2 ∷ []) ∷ (4, not1 ∷ not2 ∷ []) ∷ (5, pos 2 ∷ []) ∷ [])

-- the propagation of the negations of these literals over these hints
abbrev pub propagation_of_lemma : ClauseMap → List ℤ → List ℕ → Propagation
propagation_of_lemma p lemma hints = propagate p (negations (from_literals lemma)) hints

-- Walks over the four binary clauses.
pub record PropagationExamples : Type 0 where
  -- hint 1 leaves 1, hint 2 then leaves nothing, and the third hint isn't read
  pub closed_early : propagation_of_lemma four_binary (pos 2 ∷ []) (1 ∷ 2 ∷ 3 ∷ [])
      ≡ Closed (1 ∷ 2 ∷ [])
  -- 5 leaves 2, 3 then leaves 1, and 4 nothing
  pub empty_clause : propagation_of_lemma four_binary [] (5 ∷ 3 ∷ 4 ∷ []) ≡ Closed (5 ∷ 3 ∷ 4 ∷ [])
  -- clause 3 has two literals left
  pub stuck_first : propagation_of_lemma four_binary (pos 2 ∷ []) (3 ∷ 1 ∷ []) ≡ Stuck 1
  -- clause 1 leaves 1, and clause 3 then has 1 and -2 left
  pub stuck_second : propagation_of_lemma four_binary (pos 2 ∷ []) (1 ∷ 3 ∷ []) ≡ Stuck 2
  -- clause 1 leaves 1, and then 1 again, which is there already
  pub unit_again : propagation_of_lemma four_binary (pos 2 ∷ []) (1 ∷ 1 ∷ [])
      ≡ Open (from_literals (pos 1 ∷ not2 ∷ []))
  -- a clause with a literal and its negation: closed before any hint is read
  pub tautology : propagation_of_lemma four_binary (pos 1 ∷ not1 ∷ []) (1 ∷ []) ≡ Closed []
  pub empty_open : propagation_of_lemma four_binary [] [] ≡ Open (from_literals [])
  -- there is no clause 9
  pub no_such_clause : propagation_of_lemma four_binary (pos 2 ∷ []) (1 ∷ 9 ∷ []) ≡ Stuck 2

-- -1 2, 2 3 and -1 -3
abbrev pub three_clauses : ClauseMap
three_clauses = listed_clauses
    ((1, not1 ∷ pos 2 ∷ []) ∷ (2, pos 2 ∷ pos 3 ∷ []) ∷ (3, not1 ∷ not3 ∷ []) ∷ [])

-- the test of the lemma 1 3 with pivot 1 on these groups: the propagation of its negations over no hints ends open
abbrev pub rat_of : List HintGroup → RatAnswer
rat_of groups = rat three_clauses (negations (from_literals (pos 1 ∷ pos 3 ∷ []))) (pos 1) groups

-- a candidate and its hints
abbrev pub group : ℕ → List ℕ → HintGroup
group candidate hints = record { candidate = candidate; hints = hints }

-- The candidates are clauses 1 and 3. The propagation for clause 3 closes before any hint.
pub record RatExamples : Type 0 where
  pub missing : rat_of [] ≡ MissingGroup 1
  pub left_open : rat_of (group 1 [] ∷ []) ≡ GroupOpen 1
  pub stuck : rat_of (group 1 (3 ∷ []) ∷ []) ≡ GroupStuck 1 1
  pub covered : rat_of (group 1 (2 ∷ []) ∷ []) ≡ Covered (group 1 (2 ∷ []) ∷ group 3 [] ∷ [])
  -- a group of clause 2, which is no candidate, isn't tested
  pub not_tested : rat_of (group 1 (2 ∷ []) ∷ group 2 [] ∷ [])
      ≡ Covered (group 1 (2 ∷ []) ∷ group 3 [] ∷ [])
