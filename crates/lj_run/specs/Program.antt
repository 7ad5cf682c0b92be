-- How the program ends, and what it tells.
use Rattle.std.specs.Prelude.{◌≡◌, ◌≢◌, ◌⊎◌, ◌≤◌, Bool, Some, ℕ, List, [], ◌∷◌, ◌++◌, map, Option, None, Contains, IfSome, codes, decimal, string_bytes}
use Rattle.std.specs.Io.KnownBytes.{Keeps}
use Rattle.lj_clause.specs.ClauseMap.{FormulaValue}
use Rattle.lj_text.specs.declared.cnf.fault.CnfFault.{CnfFault}
use Rattle.lj_text.specs.Cnf.{HasFault, Spells}
use Rattle.lj_text.specs.FaultNames.{cnf_fault_name}
use Rattle.lj_text.specs.Streams.{SourceState}
use Rattle.lj_clause.specs.Truth.{IsUnsatisfiable}
use Rattle.lj_run.specs.Checking.{IsChecked, IsCutText}
use Rattle.lj_run.specs.Ways.{IsFaultBy}
use Rattle.lj_run.specs.Proof.{SinkState}
use Rattle.lj_run.specs.Tried.{MayCreate, NoneCreated, Tried, with_uncreated, with_unopened}
use Rattle.lj_run.specs.declared.checking.Checked.{Checked}
use Rattle.lj_run.specs.declared.outcome.ProofEnd.{ProofEnd}
use Rattle.lj_run.specs.declared.outcome.ProofEnd.TheVariants.{NotAsked, Written, Failed}
use Rattle.lj_run.specs.declared.outcome.ProofFault.{ProofFault}
use Rattle.lj_run.specs.declared.outcome.ProofFault.TheVariants.{Device, NoMemory}
use Rattle.lj_run.specs.CommandLine.{Asked, AskedRun, a_run, misread, paths_by_seat, the_help, the_version, the_usage, told_so}
use Rattle.lj_run.specs.declared.checking.Verdict.{Verdict}
use Rattle.lj_run.specs.declared.checking.Verdict.TheVariants.{Verified, NotVerified}
use Rattle.lj_run.specs.declared.fault.Fault.{Fault}
use Rattle.lj_run.specs.declared.fault.Fault.TheVariants as faults
use Rattle.lj_run.specs.declared.misuse.Misuse.{Misuse}
use Rattle.lj_run.specs.declared.misuse.Misuse.TheVariants.{NoFormula, TooManyProofs, NoLimit, Overwrites}
use Rattle.lj_run.specs.declared.outcome.RunFault.{RunFault}
use Rattle.lj_run.specs.declared.outcome.RunFault.TheVariants as run_faults
use Rattle.lj_run.specs.declared.status.Status.{Status}
use Rattle.lj_run.specs.declared.status.Status.TheVariants as statuses
use Rattle.lj_clause.specs.declared.lit.TheConstants.{MAX_VARIABLE}

-- ---- statuses

-- the number that a status ends with
abbrev pub status_code : Status → ℕ
status_code statuses.Done = 0
status_code statuses.NotVerified = 1
status_code statuses.Fault = 2
status_code statuses.Usage = 3

-- the status where the formula is verified, or isn't
abbrev pub verdict_status : Verdict → Status
verdict_status Verified = statuses.Done
verdict_status NotVerified = statuses.NotVerified

-- the status of what a check answers: a proof that couldn't be written is a fault
abbrev pub proof_status : ProofEnd → Status → Status
proof_status NotAsked status = status
proof_status Written status = status
proof_status (Failed fault) status = statuses.Fault

-- the status of what a check answers
abbrev pub checked_status : Checked → Status
checked_status checked = proof_status checked.proof (verdict_status checked.verdict)

-- the status after a fault
abbrev pub status_of_fault : Fault → Status
status_of_fault (faults.Usage misuse) = statuses.Usage
status_of_fault (faults.Misread text) = statuses.Usage
status_of_fault fault = statuses.Fault

-- ---- what is told on standard error

-- the line of a fault of the formula's text at a path
abbrev pub formula_fault_text : List ℕ → CnfFault → List ℕ
formula_fault_text path fault =
    (codes "lratjoin: " ++ (path ++ codes ": line "))
    ++ (decimal fault.line ++ (codes ": " ++ (cnf_fault_name fault.kind ++ codes "\n")))

-- what is told of a proof that couldn't be written into the file at a path
abbrev pub lost_text : List ℕ → ProofFault → List ℕ
lost_text path Device = codes "lratjoin: " ++ (path ++ codes ": cannot write\n")
lost_text path (NoMemory e) = codes "lratjoin: NoMemory\n"

-- the reason why words that `clap` reads are wrong
abbrev pub misuse_text : Misuse → List ℕ
misuse_text NoFormula = codes "FORMULA wasn't provided"
misuse_text TooManyProofs = codes "there are more than 64 PROOF files"
misuse_text NoLimit = codes "N of '--max-steps <N>' is no number from 0 to 4294967295"
misuse_text Overwrites = codes "OUT of '--proof <OUT>' is a file that the run reads"

-- what is told of words that `clap` reads and that are wrong
abbrev pub usage_text : Misuse → List ℕ
usage_text misuse = codes "error: "
    ++ (misuse_text misuse ++ codes "\n\nFor more information, try '--help'.\n")

-- the line of a fault; words that `clap` doesn't read are told by its own text
abbrev pub fault_text : Fault → List ℕ
fault_text (faults.Formula path fault) = formula_fault_text path.now fault
fault_text (faults.CannotRead path) = codes "lratjoin: " ++ (path.now ++ codes ": cannot read\n")
fault_text faults.CannotWrite = codes "lratjoin: cannot write\n"
fault_text (faults.CannotCreate path) = codes "lratjoin: " ++ (path.now ++ codes ": cannot write\n")
fault_text (faults.ProofLost path fault) = lost_text path.now fault
fault_text (faults.NoMemory e) = codes "lratjoin: NoMemory\n"
fault_text faults.OutOfMemory = codes "lratjoin: NoMemory\n"
fault_text faults.Unconfirmed = codes "lratjoin: Unconfirmed\n"
fault_text (faults.Usage misuse) = usage_text misuse
fault_text (faults.Misread text) = string_bytes text

-- ---- the files of a run

-- The state of a source that was just opened at a path: it has given nothing and hasn't failed, and what is told of the path's file
-- is still to come.
pub record IsOpened (content : Option (List ℕ)) (source : SourceState) : Type 0 where
  pub fresh : source.given ≡ []
  pub unfailed : source.failures ≡ 0
  pub bytes : Keeps content source.rest

-- inputs that were just opened at paths of which this is told
abbrev pub HasInputs : {I : Type 0} → (I → SourceState) → List (Option (List ℕ)) → List I → Type 0
HasInputs seen [] [] = Unit {0}
HasInputs seen [] (input ∷ inputs) = ⊥
HasInputs seen (content ∷ contents) [] = ⊥
HasInputs seen (content ∷ contents) (input ∷ inputs) = IsOpened content (seen input)
    × HasInputs seen contents inputs

-- The files of a run: that of the formula, as it was opened and once it was read, and those of the streams by their seats, as they
-- were opened.
pub record RunInputs {I : Type 0} (seen : I → SourceState) (content : List ℕ → Option (List ℕ))
    (run : AskedRun) : Type 0 where
  pub opened : I
  pub after : I
  pub streams : List I
  pub formula_is : IsOpened (content run.formula) (seen opened)
  pub streams_are : HasInputs seen (map content (paths_by_seat run)) streams

-- a sink that was just created, where a path is asked for: it has taken nothing and hasn't failed
abbrev pub IsCreated : {W : Type 0} → (W → SinkState) → Option (List ℕ) → Option W → Type 0
IsCreated sink None None = Unit {0}
IsCreated sink None (Some created) = ⊥
IsCreated sink (Some path) None = ⊥
IsCreated sink (Some path) (Some created) = ((sink created).taken ≡ [])
    × ((sink created).failures ≡ 0)

-- ---- what is printed

-- What is printed of a run that was asked for so, where the check answers this. The sink of the proof was created for it, and holds what
-- the run made of the proof.
pub record IsRunPrinted {I W : Type 0} (seen : I → SourceState) (sink : W → SinkState)
    (content : List ℕ → Option (List ℕ)) (run : AskedRun) (checked : Checked)
    (text : List ℕ) : Type 0 where
  pub inputs : RunInputs seen content run
  pub created : Option W
  pub written : Option W
  pub created_is : IsCreated sink run.proof created
  pub printed : IsChecked run.way (seen inputs.opened) (seen inputs.after) seen sink run.max_steps
      run.trims inputs.streams created written checked text

-- A beginning of what is printed of a run that was asked for so was taken, and not all.
pub record IsRunCut {I : Type 0} (seen : I → SourceState) (content : List ℕ → Option (List ℕ))
    (run : AskedRun) (old new : List ℕ) : Type 0 where
  pub inputs : RunInputs seen content run
  pub cut : IsCutText run.way (seen inputs.opened) (seen inputs.after) seen run.max_steps
      inputs.streams old new

-- What was taken is what is printed of a run that was asked for so, and this is the status of what the check answers.
pub record IsRunAnswered {I W : Type 0} (seen : I → SourceState) (sink : W → SinkState)
    (content : List ℕ → Option (List ℕ)) (run : AskedRun) (old new : List ℕ)
    (status : ℕ) : Type 0 where
  pub checked : Checked
  pub text : List ℕ
  pub printed : IsRunPrinted seen sink content run checked text
  pub took : new ≡ old ++ text
  pub status_is : status ≡ status_code (checked_status checked)

-- What was taken is right of the run with and without --explain, and with and without --progress.
abbrev pub IsReportOfAll : {I W : Type 0} → (I → SourceState) → (W → SinkState)
    → (List ℕ → Option (List ℕ)) → AskedRun → List ℕ → List ℕ → ℕ → Type 0
IsReportOfAll seen sink content run old new status = (explains tells_progress : Bool)
    → IsRunAnswered seen sink content (told_so run explains tells_progress) old new status

-- The run that was asked for has no outcome for this reason, once all of its files that are read were opened.
pub record HasNoOutcome {I : Type 0} (seen : I → SourceState) (content : List ℕ → Option (List ℕ))
    (run : AskedRun) (fault : RunFault) : Type 0 where
  pub inputs : RunInputs seen content run
  pub fault_is : IsFaultBy run.way (seen inputs.opened) (seen inputs.after) seen run.max_steps
      inputs.streams fault

-- What is printed of a run that was asked for so was made, and its proof failed for this reason.
pub record HasLostProof {I W : Type 0} (seen : I → SourceState) (sink : W → SinkState)
    (content : List ℕ → Option (List ℕ)) (run : AskedRun) (fault : ProofFault) : Type 0 where
  pub checked : Checked
  pub text : List ℕ
  pub printed : IsRunPrinted seen sink content run checked text
  pub failed : checked.proof ≡ Failed fault

-- this text spells a formula that no assignment satisfies
pub record SpellsUnsatisfiable (text : List ℕ) : Type 0 where
  pub formula : FormulaValue
  pub spells : Spells MAX_VARIABLE text formula
  pub unsatisfiable : IsUnsatisfiable formula

-- ---- how the program ends

-- what holds where words ask for a run
abbrev pub IfRun : Asked → (AskedRun → Type 0) → Type 0
IfRun (a_run run) P = P run
IfRun the_help P = Unit {0}
IfRun the_version P = Unit {0}
IfRun (the_usage misuse) P = Unit {0}
IfRun misread P = Unit {0}

-- words ask for a run, of which this holds
abbrev pub IsRunAnd : Asked → (AskedRun → Type 0) → Type 0
IsRunAnd (a_run run) P = P run
IsRunAnd the_help P = ⊥
IsRunAnd the_version P = ⊥
IsRunAnd (the_usage misuse) P = ⊥
IsRunAnd misread P = ⊥

-- the program may end with this status where words ask for this
abbrev pub MayEnd : Asked → ℕ → Type 0
MayEnd (a_run run) status = status ≤ 2
MayEnd the_help status = (status ≡ 0) ⊎ (status ≡ 2)
MayEnd the_version status = (status ≡ 0) ⊎ (status ≡ 2)
MayEnd (the_usage misuse) status = (status ≡ 2) ⊎ (status ≡ 3)
MayEnd misread status = (status ≡ 2) ⊎ (status ≡ 3)

-- something is to be printed where words ask for this
abbrev pub AsksForOutput : Asked → Type 0
AsksForOutput (a_run run) = Unit {0}
AsksForOutput the_help = Unit {0}
AsksForOutput the_version = Unit {0}
AsksForOutput (the_usage misuse) = ⊥
AsksForOutput misread = ⊥

-- the proof that words ask for couldn't be written, and what is printed of the run was taken
abbrev pub IsProofLost : {I W : Type 0} → (I → SourceState) → (W → SinkState)
    → (List ℕ → Option (List ℕ)) → Asked → List ℕ → List ℕ → Type 0
IsProofLost seen sink content asked old new = IsRunAnd asked
    (λ run. IsRunAnswered seen sink content run old new 2)

-- the words ask for no proof at this path
abbrev pub IsOther : Asked → List ℕ → Type 0
IsOther asked path = IfRun asked (λ run. run.proof ≢ Some path)

-- what is created where words ask for this: the file of the proof, once at most, where there is one, and nothing else
abbrev pub CreatesAtMost : Asked → Tried → Tried → Type 0
CreatesAtMost (a_run run) before after = MayCreate run.proof before after
CreatesAtMost the_help before after = NoneCreated before after
CreatesAtMost the_version before after = NoneCreated before after
CreatesAtMost (the_usage misuse) before after = NoneCreated before after
CreatesAtMost misread before after = NoneCreated before after

-- The file at this path is to be read, and isn't told; one that is told can be opened. Its opening was tried and refused, and nothing
-- else by then: no file was created.
abbrev pub IsUnopened : (List ℕ → Option (List ℕ)) → Tried → Tried → AskedRun → List ℕ → Type 0
IsUnopened content before after run path = ((path ≡ run.formula)
    ⊎ Contains (paths_by_seat run) path)
    × (content path ≡ None) × (after ≡ with_unopened path before)

-- a proof is asked for at this path, and a creation there was tried and refused, and nothing else
abbrev pub IsUncreated : Tried → Tried → AskedRun → List ℕ → Type 0
IsUncreated before after run path = (run.proof ≡ Some path) × (after ≡ with_uncreated path before)

-- The fault is right of what words ask for, where this is told of files, and this was tried of them before and after: the fault of the
-- text that FORMULA's file gave; a path that can't be opened, or FORMULA, of which a read failed; an output that failed, where there is
-- something to print; OUT that can't be created, or that failed; a run that isn't confirmed; what is wrong with the words. Want of memory
-- may stand in place of each that memory is taken for.
abbrev pub IsFaultOf : {I W : Type 0} → (I → SourceState) → (W → SinkState) → Asked
    → (List ℕ → Option (List ℕ)) → Tried → Tried → Fault → Type 0
IsFaultOf seen sink asked content before after (faults.Formula path fault) = IsRunAnd asked
    (λ run. (path.now ≡ run.formula)
    × IfSome (content run.formula) (λ text. HasFault MAX_VARIABLE text fault)
    × HasNoOutcome seen content run (run_faults.Formula fault))
IsFaultOf seen sink asked content before after (faults.CannotRead path) =
    IsRunAnd asked (λ run. IsUnopened content before after run path.now
    ⊎ ((path.now ≡ run.formula) × HasNoOutcome seen content run run_faults.FormulaRead))
IsFaultOf seen sink asked content before after faults.CannotWrite = AsksForOutput asked
IsFaultOf seen sink asked content before after (faults.CannotCreate path) = IsRunAnd asked
    (λ run. IsUncreated before after run path.now)
IsFaultOf seen sink asked content before after (faults.ProofLost path fault) =
    IsRunAnd asked (λ run. (run.proof ≡ Some path.now) × HasLostProof seen sink content run fault)
IsFaultOf seen sink asked content before after (faults.NoMemory e) = Unit {0}
IsFaultOf seen sink asked content before after faults.OutOfMemory = Unit {0}
IsFaultOf seen sink asked content before after faults.Unconfirmed = IsRunAnd asked
    (λ run. HasNoOutcome seen content run run_faults.Unconfirmed)
IsFaultOf seen sink asked content before after (faults.Usage misuse) = asked ≡ the_usage misuse
IsFaultOf seen sink asked content before after (faults.Misread text) = asked ≡ misread

-- how often the output has failed where this fault is told: an output that failed is told, and nothing else then
abbrev pub failed_outputs : Fault → ℕ
failed_outputs faults.CannotWrite = 1
failed_outputs fault = 0

-- A right fault was told, and this is its status.
pub record IsFaultTold {I W : Type 0} (seen : I → SourceState) (sink : W → SinkState)
    (asked : Asked) (content : List ℕ → Option (List ℕ)) (before after : Tried) (failures : ℕ)
    (old new : List ℕ) (status : ℕ) : Type 0 where
  pub fault : Fault
  pub right : IsFaultOf seen sink asked content before after fault
  pub output : failures ≡ failed_outputs fault
  pub took : new ≡ old ++ fault_text fault
  pub status_is : status ≡ status_code (status_of_fault fault)
