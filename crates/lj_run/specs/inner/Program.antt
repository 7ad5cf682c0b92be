-- What the parts of the program answer, and which faults they meet.
use Rattle.std.specs.Prelude.{◌≡◌, Bool, true, false, Some, ℕ, List, Option, None, Contains}
use Rattle.std.specs.Borrow.{Bor}
use Rattle.lj_text.specs.Streams.{SourceState}
use Rattle.lj_run.specs.Proof.{SinkState}
use Rattle.lj_run.specs.Tried.{Tried, with_uncreated, with_unopened}
use Rattle.lj_run.specs.declared.outcome.ProofEnd.{ProofEnd}
use Rattle.lj_run.specs.declared.outcome.ProofEnd.TheVariants.{NotAsked, Written, Failed}
use Rattle.lj_run.specs.CommandLine.{Asked, a_run, misread, the_help, the_version, the_usage}
use Rattle.lj_run.specs.declared.checking.CheckFault.{CheckFault}
use Rattle.lj_run.specs.declared.checking.CheckFault.TheVariants as check_faults
use Rattle.lj_run.specs.declared.fault.Fault.{Fault}
use Rattle.lj_run.specs.declared.fault.Fault.TheVariants as faults
use Rattle.lj_run.specs.declared.outcome.RunFault.TheVariants as run_faults
use Rattle.lj_run.specs.declared.status.Status.{Status}
use Rattle.lj_run.specs.declared.status.Status.TheVariants as statuses
use Rattle.lj_run.specs.Program.{status_code, IsRunAnswered}

-- ---- what is told on standard error

-- what is told of a check of the formula at a path that has no answer
abbrev pub fault_at : Bor (List ℕ) → CheckFault → Fault
fault_at path (check_faults.Run (run_faults.Formula fault)) = faults.Formula path fault
fault_at path (check_faults.Run run_faults.FormulaRead) = faults.CannotRead path
fault_at path (check_faults.Run (run_faults.NoMemory e)) = faults.NoMemory e
fault_at path (check_faults.Run run_faults.Unconfirmed) = faults.Unconfirmed
fault_at path check_faults.CannotWrite = faults.CannotWrite

-- a growth of memory was refused
abbrev pub IsNoMemory : Fault → Type 0
IsNoMemory (faults.NoMemory e) = Unit {0}
IsNoMemory faults.OutOfMemory = Unit {0}
IsNoMemory fault = ⊥

-- The file at this path, whose bytes are told so, can't be opened, or memory was refused; a file whose bytes are told can be opened. The
-- opening was tried, and nothing beside it.
abbrev pub IsOpenFault : List ℕ → Option (List ℕ) → Tried → Tried → Fault → Type 0
IsOpenFault path content before after (faults.CannotRead p) = (p.now ≡ path) × (content ≡ None)
    × (after ≡ with_unopened p.now before)
IsOpenFault path content before after fault = IsNoMemory fault

-- the same of the file at one of these paths
abbrev pub IsAnOpenFault : (List ℕ → Option (List ℕ)) → List (List ℕ) → Tried → Tried → Fault
    → Type 0
IsAnOpenFault content paths before after (faults.CannotRead p) = Contains paths p.now
    × (content p.now ≡ None) × (after ≡ with_unopened p.now before)
IsAnOpenFault content paths before after fault = IsNoMemory fault

-- the file of the proof, which is asked for at this path, can't be created, which was tried, or memory was refused
abbrev pub IsCreateFault : Option (List ℕ) → Tried → Tried → Fault → Type 0
IsCreateFault path before after (faults.CannotCreate p) = (path ≡ Some p.now)
    × (after ≡ with_uncreated p.now before)
IsCreateFault path before after fault = IsNoMemory fault

-- ---- how the program ends

-- what was asked for was answered with this status
abbrev pub IsAnswerTo : {I W : Type 0} → (I → SourceState) → (W → SinkState)
    → (List ℕ → Option (List ℕ)) → Asked → List ℕ → List ℕ → Status → Type 0
IsAnswerTo seen sink content (a_run run) old new status = IsRunAnswered seen sink content run old
    new (status_code status)
IsAnswerTo seen sink content the_help old new status = status ≡ statuses.Done
IsAnswerTo seen sink content the_version old new status = status ≡ statuses.Done
IsAnswerTo seen sink content (the_usage misuse) old new status = ⊥
IsAnswerTo seen sink content misread old new status = ⊥

-- whether something stands on standard output where this fault is told
abbrev pub is_told_late : Fault → Bool
is_told_late faults.CannotWrite = true
is_told_late (faults.ProofLost path fault) = true
is_told_late fault = false

-- the fault is that of a proof that couldn't be written
abbrev pub is_lost : Fault → Bool
is_lost (faults.ProofLost path fault) = true
is_lost fault = false

-- the fault is that of a proof that was asked for at this path, of which this became
abbrev pub IsLostAt : Option (List ℕ) → ProofEnd → Fault → Type 0
IsLostAt path end (faults.ProofLost p fault) = (path ≡ Some p.now) × (end ≡ Failed fault)
IsLostAt path end fault = ⊥

-- a proof that couldn't be written was asked for
abbrev pub IsAskedFor : {A : Type 0} → ProofEnd → Option A → Type 0
IsAskedFor NotAsked path = Unit {0}
IsAskedFor Written path = Unit {0}
IsAskedFor (Failed fault) (Some path) = Unit {0}
IsAskedFor (Failed fault) None = ⊥
