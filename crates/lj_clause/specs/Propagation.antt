-- The propagation of a set of literals over a list of hints (hinted unit propagation; Cruz-Filipe et al., CADE 2017).
use Rattle.std.specs.Prelude.{ℕ, suc, Bool, true, false, not, ◌&&◌, List, [], ◌∷◌, map, ℤ, pos, neg_ℤ, int_lt, Option, Some, None, filter, if◌then◌else◌}
use Rattle.std.specs.List.{list_any}
use Rattle.std.specs.FinMap.{get}
use Rattle.lj_clause.specs.LiteralSet.{LiteralSet, holds, with_literal, literals, negations}
use Rattle.lj_clause.specs.ClauseMap.{ClauseMap}

-- how a propagation ends
pub data Propagation : Type 0 where
  -- closed, with the hints that it read
  Closed : List ℕ → Propagation
  -- open, with the literals that it holds true
  Open : LiteralSet → Propagation
  -- stuck at a hint, counted from 1
  Stuck : ℕ → Propagation

-- A hint is a number and the clause that it names, if it names one.
pub record Hint : Type 0 where
  pub number : ℕ
  pub clause : Option LiteralSet

-- the hints of these numbers in a clause map
abbrev pub hints_in : ClauseMap → List ℕ → List Hint
hints_in p numbers = map (λ n. record { number = n; clause = get p n }) numbers

-- the literals of the clause d whose negation is not in a
abbrev pub rest : LiteralSet → LiteralSet → List ℤ
rest d a = filter (λ l. not (holds a (neg_ℤ l))) (literals d)

-- whether the set holds a variable and its negation
abbrev pub is_contradictory : LiteralSet → Bool
is_contradictory a = list_any (λ l. int_lt (pos 0) l && holds a (neg_ℤ l)) (literals a)

-- the end of a propagation that read the hint of this number first
abbrev pub after_hint : ℕ → Propagation → Propagation
after_hint n (Closed used) = Closed (n ∷ used)
after_hint n (Open a) = Open a
after_hint n (Stuck position) = Stuck (suc position)

-- What the hint of this number does, by what is left of its clause: nothing closes the propagation, one literal lets it
-- go onward, and two or more are stuck.
abbrev pub by_rest : ℕ → List ℤ → (ℤ → Propagation) → Propagation
by_rest n [] onward = Closed (n ∷ [])
by_rest n (l ∷ []) onward = after_hint n (onward l)
by_rest n (l ∷ m ∷ ls) onward = Stuck 1

-- the same, where a hint that names no clause is stuck
abbrev pub by_hint : ℕ → Option LiteralSet → LiteralSet → (ℤ → Propagation) → Propagation
by_hint n None a onward = Stuck 1
by_hint n (Some d) a onward = by_rest n (rest d a) onward

-- the propagation of a over the hints
unfoldable pub propagate_over : LiteralSet → List Hint → Propagation
propagate_over a [] = if is_contradictory a then Closed [] else Open a
propagate_over a (h ∷ hs) = if is_contradictory a then Closed []
    else by_hint h.number h.clause a (λ l. propagate_over (with_literal a l) hs)

-- the propagation of a over the hints of these numbers in a clause map
abbrev pub propagate : ClauseMap → LiteralSet → List ℕ → Propagation
propagate p a numbers = propagate_over a (hints_in p numbers)

-- whether the propagation is closed
abbrev pub is_closed : Propagation → Bool
is_closed (Closed used) = true
is_closed (Open a) = false
is_closed (Stuck position) = false

-- reverse unit propagation: the propagation of the negations of the clause's literals is closed
abbrev pub is_rup : ClauseMap → LiteralSet → List ℕ → Bool
is_rup p c numbers = is_closed (propagate p (negations c) numbers)
