-- Resolution asymmetric tautologies (Cruz-Filipe et al., CADE 2017): the test of each clause that holds the pivot's negation.
use Rattle.std.specs.Prelude.{ℕ, Bool, true, false, not, List, [], ◌∷◌, map, ℤ, neg_ℤ, Option, Some, None, filter, is_some, unwrap_or, if◌then◌else◌, ◌==◌}
use Rattle.std.specs.Ordering.{eq_by_cmp}
use Rattle.std.specs.FinMap.{entries}
use Rattle.lj_clause.specs.Literal.{lit_cmp}
use Rattle.lj_clause.specs.LiteralSet.{LiteralSet, holds, literals, with_negations}
use Rattle.lj_clause.specs.ClauseMap.{ClauseMap}
use Rattle.lj_clause.specs.Propagation.{Propagation, Closed, Open, Stuck, Hint, hints_in, propagate_over}

-- The hints for one candidate.
pub record HintGroup : Type 0 where
  pub candidate : ℕ
  pub hints : List ℕ

-- The same, with the clauses that the hints name.
pub record NamedGroup : Type 0 where
  pub candidate : ℕ
  pub hints : List Hint

-- the groups of these numbers in a clause map
abbrev pub groups_in : ClauseMap → List HintGroup → List NamedGroup
groups_in p groups = map (λ g. record { candidate = g.candidate; hints = hints_in p g.hints })
    groups

-- the hints of a candidate's group: those of the first, if it has one
abbrev pub group_of : ℕ → List NamedGroup → Option (List Hint)
group_of n [] = None
group_of n (g ∷ gs) = if g.candidate == n then Some g.hints else group_of n gs

-- how the test of the candidates ends
pub data RatAnswer : Type 0 where
  -- each candidate's propagation is closed: the groups with the hints that were read, by rising candidate
  Covered : List HintGroup → RatAnswer
  -- the first candidate whose propagation isn't closed: it has no group, its propagation is stuck at a place, or it ends open
  MissingGroup : ℕ → RatAnswer
  GroupStuck : ℕ → ℕ → RatAnswer
  GroupOpen : ℕ → RatAnswer

-- the candidates of a pivot: the clauses that hold its negation, by rising number
abbrev pub candidates : ClauseMap → ℤ → List (ℕ × LiteralSet)
candidates p pivot = filter (λ e. holds e.1 (neg_ℤ pivot)) (entries p)

-- the literals of a clause other than this one
abbrev pub others : LiteralSet → ℤ → List ℤ
others c l = filter (λ m. not (eq_by_cmp lit_cmp m l)) (literals c)

-- the answer with one group more at its front, if all are covered
abbrev pub with_group : ℕ → List ℕ → RatAnswer → RatAnswer
with_group n used (Covered groups) = Covered (record { candidate = n; hints = used } ∷ groups)
with_group n used (MissingGroup m) = MissingGroup m
with_group n used (GroupStuck m position) = GroupStuck m position
with_group n used (GroupOpen m) = GroupOpen m

-- what a candidate's propagation gives, by whether it has a group, before the answer for those after it
abbrev pub by_candidate : ℕ → Bool → Propagation → RatAnswer → RatAnswer
by_candidate n has_group (Closed used) later = with_group n used later
by_candidate n has_group (Open a) later = if has_group then GroupOpen n else MissingGroup n
by_candidate n has_group (Stuck position) later = if has_group then GroupStuck n position
    else MissingGroup n

-- the propagation of a with the negations of the candidate's literals other than the pivot's negation, over its group
abbrev pub candidate_propagation : LiteralSet → ℤ → LiteralSet → Option (List Hint) → Propagation
candidate_propagation a pivot d group = propagate_over (with_negations a (others d (neg_ℤ pivot)))
    (unwrap_or group [])

-- the test of these candidates
unfoldable pub rat_over : LiteralSet → ℤ → List NamedGroup → List (ℕ × LiteralSet) → RatAnswer
rat_over a pivot groups [] = Covered []
rat_over a pivot groups (e ∷ es) = by_candidate e.0 (is_some (group_of e.0 groups))
    (candidate_propagation a pivot e.1 (group_of e.0 groups)) (rat_over a pivot groups es)

-- the test of all candidates of the pivot in a clause map, for a propagation that ended open with a
abbrev pub rat : ClauseMap → LiteralSet → ℤ → List HintGroup → RatAnswer
rat p a pivot groups = rat_over a pivot (groups_in p groups) (candidates p pivot)

-- whether each candidate's propagation is closed
abbrev pub is_covered : RatAnswer → Bool
is_covered (Covered groups) = true
is_covered (MissingGroup n) = false
is_covered (GroupStuck n position) = false
is_covered (GroupOpen n) = false
