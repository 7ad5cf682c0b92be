-- A seat's addition in joint numbers.
use Rattle.std.specs.Prelude.{ℕ, Bool, true, false, nat_lt, if◌then◌else◌, List, [], ◌∷◌, Option, Some, None, Result, Ok, Err}
use Rattle.lj_clause.specs.Lemma.{LemmaValue}
use Rattle.lj_clause.specs.ClauseMap.{ClauseMap}
use Rattle.lj_clause.specs.Rat.{HintGroup}
use Rattle.lj_text.specs.declared.line.Addition.{Addition}
use Rattle.lj_text.specs.Steps.{first_propagation, recorded_form}
use Rattle.lj_hint.specs.declared.rat_refusal.RatRefusal.TheVariants as rats
use Rattle.lj_hint.specs.declared.live_line.LineRefusal.{LineRefusal}
use Rattle.lj_hint.specs.declared.live_line.LineRefusal.TheVariants.{Stuck, Rat}
use Rattle.lj_book.specs.declared.refusal.Refusal.{Refusal}
use Rattle.lj_book.specs.declared.refusal.Refusal.TheVariants.{UnknownNumber, GroupRepeated, HintNotUnit, EmptyOpen, MissingGroup, GroupStuck, GroupOpen, NoMemory}
use Rattle.lj_text.specs.declared.step.Step.TheVariants as steps
use Rattle.lj_book.specs.declared.entry.Call.TheVariants as calls
use Rattle.lj_book.specs.declared.entry.Entry.{Entry}
use Rattle.lj_book.specs.Tables.{joint_of}
use Rattle.lj_book.specs.State.{State, next, live}
use Rattle.lj_book.specs.Calls.{repeated_after, unless_refused, free_refusal, if_free}
use Rattle.lj_book.specs.Inside.{propagation_refusal, test_refusal}

-- the reply for a bound number, and the refusal of one that isn't
abbrev pub if_bound : {A : Type 0} → ℕ → Option ℕ → (ℕ → Result A Refusal) → Result A Refusal
if_bound own None onward = Err (UnknownNumber own)
if_bound own (Some joint) onward = onward joint

abbrev pub with_joint : ℕ → Result (List ℕ) Refusal → Result (List ℕ) Refusal
with_joint joint (Ok joints) = Ok (joint ∷ joints)
with_joint joint (Err e) = Err e

-- the joint numbers of these own numbers, or the first that isn't bound
abbrev pub joints_in : (ℕ → Option ℕ) → List ℕ → Result (List ℕ) Refusal
joints_in joint [] = Ok []
joints_in joint (own ∷ owns) = if_bound own (joint own) (λ j. with_joint j (joints_in joint owns))

abbrev pub with_joint_group : ℕ → Result (List ℕ) Refusal → Result (List HintGroup) Refusal
    → Result (List HintGroup) Refusal
with_joint_group candidate (Err e) later = Err e
with_joint_group candidate (Ok hints) (Err e) = Err e
with_joint_group candidate (Ok hints) (Ok groups) = Ok
    (record { candidate = candidate; hints = hints } ∷ groups)

-- the groups in joint numbers, each candidate before its hints
abbrev pub joint_groups_in : (ℕ → Option ℕ) → List HintGroup → Result (List HintGroup) Refusal
joint_groups_in joint [] = Ok []
joint_groups_in joint (g ∷ gs) = if_bound g.candidate (joint g.candidate)
    (λ j. with_joint_group j (joints_in joint g.hints) (joint_groups_in joint gs))

-- whether the candidates of these groups rise, and are all greater than this number
abbrev pub rising_from : ℕ → List HintGroup → Bool
rising_from last [] = true
rising_from last (g ∷ gs) = if nat_lt last g.candidate then rising_from g.candidate gs else false

-- the hints and the groups of an addition
abbrev pub LineParts : Type 0
LineParts = List ℕ × List HintGroup

abbrev pub parts_unless : Option ℕ → LineParts → Result LineParts Refusal
parts_unless None parts = Ok parts
parts_unless (Some own) parts = Err (GroupRepeated own)

abbrev pub parts_with : Option ℕ → Result (List ℕ) Refusal → Result (List HintGroup) Refusal
    → Result LineParts Refusal
parts_with repeated (Err e) groups = Err e
parts_with repeated (Ok hints) (Err e) = Err e
parts_with repeated (Ok hints) (Ok groups) = parts_unless repeated (hints, groups)

-- the hints and the groups in joint numbers, or the first refusal
abbrev pub joint_parts : (ℕ → Option ℕ) → Addition → Result LineParts Refusal
joint_parts joint a = parts_with (repeated_after joint [] a.groups) (joints_in joint a.hints)
    (joint_groups_in joint a.groups)

-- the addition of these parts under a joint number
abbrev pub addition_of_parts : ℕ → LemmaValue → LineParts → Addition
addition_of_parts number lemma parts = record
    { number = number; lemma = lemma; hints = parts.0; groups = parts.1 }

-- the recorded form of an addition in joint numbers, or the refusal of its test
abbrev pub tested_line : ClauseMap → Addition → Result Addition Refusal
tested_line p a = unless_refused (propagation_refusal p a (first_propagation p a))
    (recorded_form p a)

-- the same of an addition under a joint number whose parts are these, or their first refusal
abbrev pub tested_parts : ClauseMap → ℕ → LemmaValue → Result LineParts Refusal
    → Result Addition Refusal
tested_parts p number lemma (Err e) = Err e
tested_parts p number lemma (Ok parts) = tested_line p (addition_of_parts number lemma parts)

-- a refusal of the test of a line
abbrev pub refusal_of : LineRefusal → Refusal
refusal_of (Stuck place) = HintNotUnit place
refusal_of (Rat rats.EmptyOpen) = EmptyOpen
refusal_of (Rat (rats.MissingGroup n)) = MissingGroup n
refusal_of (Rat (rats.GroupStuck n place)) = GroupStuck n place
refusal_of (Rat (rats.GroupOpen n)) = GroupOpen n
refusal_of (Rat (rats.NoMemory e)) = NoMemory e

-- the step of an addition whose parts are these, or its first refusal
abbrev pub line_by : State → LemmaValue → Result LineParts Refusal → Result Addition Refusal
line_by s lemma (Err e) = Err e
line_by s lemma (Ok parts) = unless_refused
    (test_refusal s (addition_of_parts (next s) lemma parts))
    (recorded_form (live s) (addition_of_parts (next s) lemma parts))

-- the step of a seat's addition, or its first refusal
abbrev pub inside_line : State → ℕ → Addition → Result Addition Refusal
inside_line s seat a = if_free (free_refusal s seat a.number)
    (line_by s a.lemma (joint_parts (joint_of s.tables seat) a))

-- the entry of an addition with this step
abbrev pub line_entry : ℕ → ℕ → Addition → Entry
line_entry seat own step = record
    { seat = seat; call = calls.Add own step.lemma; step = Some (steps.Add step) }
