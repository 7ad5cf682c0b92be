-- The laws of steps, of replays and of refutations.
use Rattle.std.specs.Prelude.{◌≡◌, ℕ, true, List, Some}
use Rattle.std.specs.List.{AllByRecursion}
use Rattle.lj_clause.specs.ClauseMap.{ClauseMap, FormulaValue, formula_map}
use Rattle.lj_clause.specs.Truth.{Assignment, SatisfiesAll, IsSatisfiable}
use Rattle.lj_text.specs.declared.line.Addition.{Addition}
use Rattle.lj_text.specs.declared.step.Step.{Step}
use Rattle.lj_text.specs.declared.step.Step.TheVariants.{Add}
use Rattle.lj_text.specs.Needed.{NumberSet, has, up_to_empty, additions, all_hints, empty_numbers, needed_numbers}
use Rattle.lj_text.specs.Steps.{is_accepted, after_step, replay, refutes, recorded_form, IsRecorded}

-- an accepted step leaves a satisfiable map satisfiable
abbrev pub AcceptedKeepsSatisfiable : Type 0
AcceptedKeepsSatisfiable = (p : ClauseMap) (step : Step) → is_accepted p step ≡ true
    → IsSatisfiable p → IsSatisfiable (after_step p step)

-- and so does each list of steps that are accepted in turn
abbrev pub ReplayKeepsSatisfiable : Type 0
ReplayKeepsSatisfiable = (p q : ClauseMap) (steps : List Step) → replay p steps ≡ Some q
    → IsSatisfiable p → IsSatisfiable q

-- no assignment satisfies a formula that a list of steps refutes
abbrev pub RefutedIsUnsatisfiable : Type 0
RefutedIsUnsatisfiable = (f : FormulaValue) (steps : List Step) → refutes f steps ≡ true
    → (a : Assignment) → SatisfiesAll a (formula_map f) → ⊥

-- an accepted addition is accepted in its recorded form too, and leaves the same map
abbrev pub RecordedLosesNothing : Type 0
RecordedLosesNothing = (p : ClauseMap) (a : Addition) → is_accepted p (Add a) ≡ true
    → IsRecorded p (recorded_form p a) × (is_accepted p (Add (recorded_form p a)) ≡ true)
    × (after_step p (Add (recorded_form p a)) ≡ after_step p (Add a))

-- A set holds the number of the first addition of the empty clause and, with the number of each addition up to it, all
-- the hints of that addition.
pub record IsClosedSet (steps : List Step) (s : NumberSet) : Type 0 where
  pub empty_clause : AllByRecursion (λ n. has s n ≡ true) (empty_numbers (up_to_empty steps))
  pub hints : AllByRecursion
      (λ (a : Addition). has s a.number ≡ true → AllByRecursion (λ n. has s n ≡ true) (all_hints a))
      (additions (up_to_empty steps))

-- the needed set is such a set, and part of each other one
abbrev pub NeededIsLeast : Type 0
NeededIsLeast = (steps : List Step) → IsClosedSet steps (needed_numbers steps) × ((s : NumberSet)
    → IsClosedSet steps s → (n : ℕ) → has (needed_numbers steps) n ≡ true → has s n ≡ true)
