-- An addition that is tested and entered in one call: its reply, and its entry.
use Rattle.std.specs.Prelude.{ℕ, nat_lt, map, ℤ, Option, Some, None, if◌then◌else◌, Result, Ok, Err}
use Rattle.lj_clause.specs.LiteralSet.{LiteralSet}
use Rattle.lj_clause.specs.ClauseMap.{ClauseMap}
use Rattle.lj_clause.specs.Propagation.{Propagation, Closed, Open, Stuck}
use Rattle.lj_clause.specs.Rat as rats
use Rattle.lj_text.specs.declared.line.Addition.{Addition}
use Rattle.lj_text.specs.declared.step.Step.{Step}
use Rattle.lj_text.specs.declared.step.Step.TheVariants as steps
use Rattle.lj_text.specs.Steps.{first_propagation, recorded_form}
use Rattle.lj_hint.specs.Hints.{numbers}
use Rattle.lj_hint.specs.Case.{CaseValue}
use Rattle.lj_book.specs.declared.entry.Call.TheVariants as calls
use Rattle.lj_book.specs.declared.entry.Entry.{Entry}
use Rattle.lj_book.specs.declared.entry.Added.{Added}
use Rattle.lj_book.specs.declared.refusal.Refusal.{Refusal}
use Rattle.lj_book.specs.declared.refusal.Refusal.TheVariants.{HintNotUnit, EmptyOpen, MissingGroup, GroupStuck, GroupOpen, Full}
use Rattle.lj_book.specs.State.{State, addition_count, next, live}
use Rattle.lj_book.specs.Calls.{unless_refused, take_reply, commit_told}

-- the addition of a case in joint numbers, under this number
abbrev pub joint_addition : ℕ → CaseValue → Addition
joint_addition number c = record {
  number = number;
  lemma = c.lemma;
  hints = numbers c.hints;
  groups = map (λ g. record { candidate = g.0.joint; hints = numbers g.1 }) c.groups;
}

-- the refusal of the first candidate that isn't covered
abbrev pub rat_refusal : rats.RatAnswer → Option Refusal
rat_refusal (rats.Covered groups) = None
rat_refusal (rats.MissingGroup n) = Some (MissingGroup n)
rat_refusal (rats.GroupStuck n place) = Some (GroupStuck n place)
rat_refusal (rats.GroupOpen n) = Some (GroupOpen n)

-- the same, where a lemma without a pivot has no candidates to try
abbrev pub open_refusal : ClauseMap → Addition → LiteralSet → Option ℤ → Option Refusal
open_refusal p a s None = Some EmptyOpen
open_refusal p a s (Some q) = rat_refusal (rats.rat p s q a.groups)

-- the refusal that the end of propagation over the first list of hints leads to
abbrev pub propagation_refusal : ClauseMap → Addition → Propagation → Option Refusal
propagation_refusal p a (Closed used) = None
propagation_refusal p a (Open s) = open_refusal p a s a.lemma.pivot
propagation_refusal p a (Stuck place) = Some (HintNotUnit place)

-- the last refusal: the history holds as many additions as it may
abbrev pub or_full : State → Option Refusal → Option Refusal
or_full s None = if nat_lt (addition_count s.history) s.max_steps then None else Some Full
or_full s (Some e) = Some e

-- the first refusal of an addition in joint numbers that holds
abbrev pub test_refusal : State → Addition → Option Refusal
test_refusal s a = or_full s (propagation_refusal (live s) a (first_propagation (live s) a))

-- the reply to an addition by that to its take
abbrev pub inside_after : State → Result CaseValue Refusal → Result Added Refusal
inside_after s (Err e) = Err e
inside_after s (Ok c) = unless_refused (test_refusal s (joint_addition (next s) c)) (commit_told s)

-- The refusals of a take, then those of the test over the live clauses, then that of a full history; else the place of
-- the entry, and the joint number of the lemma.
abbrev pub inside_reply : State → ℕ → Addition → Result Added Refusal
inside_reply s seat a = inside_after s (take_reply s seat a)

-- the step adds the lemma under the next number, in recorded form
abbrev pub inside_step : State → Result CaseValue Refusal → Option Step
inside_step s (Err e) = None
inside_step s (Ok c) = Some (steps.Add (recorded_form (live s) (joint_addition (next s) c)))

-- the entry of an addition that isn't refused
abbrev pub inside_entry : State → ℕ → Addition → Entry
inside_entry s seat a = record
    { seat = seat; call = calls.Add a.number a.lemma; step = inside_step s (take_reply s seat a) }
