-- The trimmed form of a step by a test of its numbers.
use Rattle.std.specs.Prelude.{ℕ, nat_le, Bool, ◌||◌, List, Option, Some, None, filter, if◌then◌else◌}
use Rattle.lj_clause.specs.Rat.{HintGroup}
use Rattle.lj_text.specs.declared.step.Step.{Step}
use Rattle.lj_text.specs.declared.step.Step.TheVariants.{Add, Delete}
use Rattle.lj_text.specs.Needed.{if_some}
use Rattle.lj_trim.specs.declared.marks.Marks.{Marks}
use Rattle.lj_trim.specs.inner.Marks.{is_marked}

-- whether the number is one of a clause of the formula or marked
abbrev pub keeps : ℕ → Marks → ℕ → Bool
keeps clauses m n = nat_le n clauses || is_marked m n

-- the groups whose candidate passes
abbrev pub groups_by : (ℕ → Bool) → List HintGroup → List HintGroup
groups_by test groups = filter (λ g. test g.candidate) groups

-- the step without the numbers that don't pass, if something is left
abbrev pub trimmed_by : (ℕ → Bool) → Step → Option Step
trimmed_by test (Add a) = if test a.number then
    Some (Add (record a { groups = groups_by test a.groups })) else None
trimmed_by test (Delete numbers) = if_some (filter test numbers)
