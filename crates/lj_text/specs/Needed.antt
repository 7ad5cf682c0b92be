-- What a refutation needs, and its trimmed list of steps.
use Rattle.std.specs.Prelude.{ℕ, zero, suc, nat_le, Bool, ◌||◌, List, [], ◌∷◌, ◌++◌, length, Option, Some, None, filter, filter_map, flat_map, if◌then◌else◌}
use Rattle.std.specs.Ordering.{nat_cmp}
use Rattle.std.specs.FinSet.{FinSet}
use Rattle.std.specs.FinMap as fin
use Rattle.lj_clause.specs.ClauseMap.{FormulaValue}
use Rattle.lj_text.specs.declared.line.Addition.{Addition}
use Rattle.lj_text.specs.declared.step.Step.{Step}
use Rattle.lj_text.specs.declared.step.Step.TheVariants.{Add, Delete}
use Rattle.lj_text.specs.Steps.{adds_empty}

-- a finite set of numbers
abbrev pub NumberSet : Type 0
NumberSet = FinSet nat_cmp

-- whether the number is in the set
abbrev pub has : NumberSet → ℕ → Bool
has s n = fin.contains_key s n

-- the set and these numbers
abbrev pub with_numbers : NumberSet → List ℕ → NumberSet
with_numbers s [] = s
with_numbers s (n ∷ ns) = fin.insert (with_numbers s ns) n tt

-- the steps up to and including the first addition of the empty clause
abbrev pub up_to_empty : List Step → List Step
up_to_empty [] = []
up_to_empty (s ∷ ss) = if adds_empty s then s ∷ [] else s ∷ up_to_empty ss

-- the additions among the steps
abbrev pub additions : List Step → List Addition
additions [] = []
additions (Add a ∷ ss) = a ∷ additions ss
additions (Delete numbers ∷ ss) = additions ss

-- all the hints of an addition: those of its first list and of its groups
abbrev pub all_hints : Addition → List ℕ
all_hints a = a.hints ++ flat_map (λ g. g.hints) a.groups

-- what was picked, with one addition more among the others
abbrev pub with_other : Addition → Option (Addition × List Addition)
    → Option (Addition × List Addition)
with_other a None = None
with_other a (Some found) = Some (found.0, a ∷ found.1)

-- the first of the additions whose number is in the set, and the others
abbrev pub pick : NumberSet → List Addition → Option (Addition × List Addition)
pick s [] = None
pick s (a ∷ others) = if has s a.number then Some (a, others) else with_other a (pick s others)

-- the set, where nothing was picked; else what goes on from the set with the hints of what was
abbrev pub by_pick : (NumberSet → List Addition → NumberSet) → NumberSet
    → Option (Addition × List Addition) → NumberSet
by_pick onward s None = s
by_pick onward s (Some found) = onward (with_numbers s (all_hints found.0)) found.1

-- the set and, as long as it has the number of an addition that wasn't taken yet, all the hints of that addition
abbrev pub closure : ℕ → NumberSet → List Addition → NumberSet
closure zero s adds = s
closure (suc n) s adds = by_pick (closure n) s (pick s adds)

-- the number of a step that adds a clause
abbrev pub added_number : Step → List ℕ
added_number (Add a) = a.number ∷ []
added_number (Delete numbers) = []

-- the numbers of the additions of the empty clause
abbrev pub empty_numbers : List Step → List ℕ
empty_numbers steps = flat_map (λ s. if adds_empty s then added_number s else []) steps

-- The needed set: the least set that holds the number of the first addition of the empty clause and, with each
-- lemma's number in it, all the hints of that lemma.
abbrev pub needed_numbers : List Step → NumberSet
needed_numbers steps = let adds = additions (up_to_empty steps) in closure (length adds)
    (with_numbers fin.empty (empty_numbers (up_to_empty steps))) adds

-- whether the number is one of a clause of the formula or needed
abbrev pub is_kept : ℕ → NumberSet → ℕ → Bool
is_kept clauses s n = nat_le n clauses || has s n

-- a deletion of these numbers, if there are any
abbrev pub if_some : List ℕ → Option Step
if_some [] = None
if_some (n ∷ ns) = Some (Delete (n ∷ ns))

-- the step without what isn't kept, if something is left
abbrev pub trimmed_step : ℕ → NumberSet → Step → Option Step
trimmed_step clauses s (Add a) = if is_kept clauses s a.number then
    Some (Add (record a { groups = filter (λ g. is_kept clauses s g.candidate) a.groups }))
    else None
trimmed_step clauses s (Delete numbers) = if_some (filter (is_kept clauses s) numbers)

-- The steps up to the first addition of the empty clause without the additions that aren't kept, without the groups
-- whose candidate isn't, with only the kept numbers in deletions, and without deletions that then hold none.
abbrev pub trimmed_steps : FormulaValue → List Step → List Step
trimmed_steps f steps = filter_map (trimmed_step (length f.clauses) (needed_numbers steps))
    (up_to_empty steps)
