-- Imports: what one finds among the live clauses, and the addition that it makes where it finds a stronger clause alone.
use Rattle.std.specs.Prelude.{ℕ, List, [], ◌∷◌, Option, Some, None, if◌then◌else◌, slice_get}
use Rattle.lj_clause.specs.LiteralSet.{LiteralSet, literals}
use Rattle.lj_clause.specs.Lemma.{LemmaValue}
use Rattle.lj_clause.specs.ClauseMap.{ClauseMap}
use Rattle.lj_clause.specs.Propagation.{is_contradictory}
use Rattle.lj_text.specs.declared.line.Addition.{Addition}
use Rattle.lj_text.specs.declared.step.Step.{Step}
use Rattle.lj_text.specs.declared.step.Step.TheVariants as steps
use Rattle.lj_book.specs.declared.found.Found.{Found}
use Rattle.lj_book.specs.declared.found.Found.TheVariants.{Equal, Part, Neither}
use Rattle.lj_book.specs.Lookup.{least_number, least_part}
use Rattle.lj_book.specs.State.{State, next, live}

-- the least number of an equal clause if there is one, or else that of a part
abbrev pub found_by : Option ℕ → Option ℕ → Found
found_by (Some equal) part = Equal equal
found_by None (Some part) = Part part
found_by None None = Neither

-- what is found in a clause map
abbrev pub found_in : ClauseMap → LiteralSet → Found
found_in p c = found_by (least_number p c) (least_part p c)

-- the clause as a lemma: its pivot is its least literal
abbrev pub clause_lemma : LiteralSet → LemmaValue
clause_lemma c = record { clause = c; pivot = slice_get (literals c) 0 }

-- the hints that prove a clause by a part of it: none where it holds a literal and its negation
abbrev pub part_hints : LiteralSet → ℕ → List ℕ
part_hints c part = if is_contradictory c then [] else part ∷ []

-- the addition of a clause under this number, by a part of it
abbrev pub part_addition : ℕ → LiteralSet → ℕ → Addition
part_addition number c part = record
    { number = number; lemma = clause_lemma c; hints = part_hints c part; groups = [] }

-- the step by what is found, where this number is the next one
abbrev pub step_by : ℕ → LiteralSet → Found → Option Step
step_by number c (Equal joint) = None
step_by number c (Part part) = Some (steps.Add (part_addition number c part))
step_by number c Neither = None

-- the number that is bound by what is found, where this number is the next one
abbrev pub number_by : ℕ → Found → Option ℕ
number_by number (Equal joint) = Some joint
number_by number (Part part) = Some number
number_by number Neither = None

-- what an import of the clause finds
abbrev pub found : State → LiteralSet → Found
found s c = found_in (live s) c

-- its step, if it takes one
abbrev pub import_step : State → LiteralSet → Option Step
import_step s c = step_by (next s) c (found s c)

-- the joint number that it binds, if there is one
abbrev pub import_number : State → LiteralSet → Option ℕ
import_number s c = number_by (next s) (found s c)
