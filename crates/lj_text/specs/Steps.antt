-- Lists of steps: when a step is accepted, what it leaves, and when a list of steps refutes a formula.
use Rattle.std.specs.Prelude.{◌≡◌, ℕ, ◌==◌, Bool, true, false, not, ◌&&◌, ◌||◌, List, [], ◌∷◌, map, ℤ, Option, Some, None, MatchOption, is_some, if◌then◌else◌}
use Rattle.std.specs.List.{list_any, list_all}
use Rattle.std.specs.FinMap as fin
use Rattle.lj_clause.specs.Literal.{variable_of}
use Rattle.lj_clause.specs.LiteralSet.{LiteralSet, holds, negations}
use Rattle.lj_clause.specs.ClauseMap.{ClauseMap, FormulaValue, formula_map}
use Rattle.lj_clause.specs.Propagation.{Propagation, Closed, Open, Stuck, propagate, is_closed}
use Rattle.lj_clause.specs.Rat.{RatAnswer, Covered, MissingGroup, GroupStuck, GroupOpen, rat, is_covered}
use Rattle.lj_text.specs.declared.line.Addition.{Addition}
use Rattle.lj_text.specs.declared.step.Step.{Step}
use Rattle.lj_text.specs.declared.step.Step.TheVariants.{Add, Delete}

-- whether the number is in the map, and whether all of these are
abbrev pub names : ClauseMap → ℕ → Bool
names p n = fin.contains_key p n

-- whether all of these numbers are in the map
abbrev pub names_all : ClauseMap → List ℕ → Bool
names_all p ns = list_all (names p) ns

-- whether no number stands twice
abbrev pub are_distinct : List ℕ → Bool
are_distinct [] = true
are_distinct (n ∷ ns) = not (list_any (λ m. m == n) ns) && are_distinct ns

-- The addition's number is not in the map, the numbers that it names are, and no candidate stands twice.
abbrev pub is_in_place : ClauseMap → Addition → Bool
is_in_place p a =
    not (names p a.number) && (names_all p a.hints
    && (list_all (λ g. names p g.candidate && names_all p g.hints) a.groups
    && are_distinct (map (λ g. g.candidate) a.groups)))

-- whether the lemma is RAT on its pivot, a literal of its clause, for a propagation that ended open with s
abbrev pub is_rat_on : ClauseMap → Addition → LiteralSet → Option ℤ → Bool
is_rat_on p a s None = false
is_rat_on p a s (Some q) = not (variable_of q == 0)
    && (holds a.lemma.clause q && is_covered (rat p s q a.groups))

-- whether the propagation of the first hint list, which ended so, leaves a lemma that is RAT on its pivot
abbrev pub is_rat_after : ClauseMap → Addition → Propagation → Bool
is_rat_after p a (Closed used) = false
is_rat_after p a (Open s) = is_rat_on p a s a.lemma.pivot
is_rat_after p a (Stuck position) = false

-- how the propagation of the addition's first hint list ends
abbrev pub first_propagation : ClauseMap → Addition → Propagation
first_propagation p a = propagate p (negations a.lemma.clause) a.hints

-- A step is accepted: an addition that is in place and RUP or RAT, a deletion of numbers that are in the map.
abbrev pub is_accepted : ClauseMap → Step → Bool
is_accepted p (Add a) = is_in_place p a
    && (is_closed (first_propagation p a) || is_rat_after p a (first_propagation p a))
is_accepted p (Delete numbers) = names_all p numbers

-- the map without these numbers
abbrev pub without : ClauseMap → List ℕ → ClauseMap
without p [] = p
without p (n ∷ ns) = fin.remove (without p ns) n

-- what a step leaves
abbrev pub after_step : ClauseMap → Step → ClauseMap
after_step p (Add a) = fin.insert p a.number a.lemma.clause
after_step p (Delete numbers) = without p numbers

-- each step in turn, where each is accepted
abbrev pub replay : ClauseMap → List Step → Option ClauseMap
replay p [] = Some p
replay p (s ∷ ss) = if is_accepted p s then replay (after_step p s) ss else None

-- whether the step adds the empty clause
abbrev pub adds_empty : Step → Bool
adds_empty (Add a) = fin.len a.lemma.clause == 0
adds_empty (Delete numbers) = false

-- The steps refute the formula: each is accepted in turn, and some addition has the empty clause.
abbrev pub refutes : FormulaValue → List Step → Bool
refutes f steps = is_some (replay (formula_map f) steps) && list_any adds_empty steps

-- An addition is in recorded form: it is RUP, its hints are all used and it has no groups; or it is RAT and has
-- one group for each candidate, by rising number, with all the hints of each group used.
abbrev pub IsRecordedAfter : ClauseMap → Addition → Propagation → Type 0
IsRecordedAfter p a (Closed used) = (a.hints ≡ used) × (a.groups ≡ [])
IsRecordedAfter p a (Open s) = MatchOption a.lemma.pivot ⊥
    (λ q. rat p s q a.groups ≡ Covered a.groups)
IsRecordedAfter p a (Stuck position) = ⊥

-- the addition is in recorded form
abbrev pub IsRecorded : ClauseMap → Addition → Type 0
IsRecorded p a = IsRecordedAfter p a (first_propagation p a)

-- the recorded form of an addition whose propagation ended so: its hints cut to those that were read, and no groups, or
-- the groups that the test of its candidates read
abbrev pub with_covered : Addition → RatAnswer → Addition
with_covered a (Covered groups) = record a { groups = groups }
with_covered a (MissingGroup n) = a
with_covered a (GroupStuck n position) = a
with_covered a (GroupOpen n) = a

-- the recorded form on this pivot, where the first propagation ended open with s
abbrev pub recorded_on : ClauseMap → Addition → LiteralSet → Option ℤ → Addition
recorded_on p a s None = a
recorded_on p a s (Some q) = with_covered a (rat p s q a.groups)

-- the recorded form, where the first propagation ended so
abbrev pub recorded_after : ClauseMap → Addition → Propagation → Addition
recorded_after p a (Closed used) = record a { hints = used; groups = [] }
recorded_after p a (Open s) = recorded_on p a s a.lemma.pivot
recorded_after p a (Stuck position) = a

-- the recorded form: only the hints that were read and, where it is RAT, one group for each candidate
abbrev pub recorded_form : ClauseMap → Addition → Addition
recorded_form p a = recorded_after p a (first_propagation p a)
