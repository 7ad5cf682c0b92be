-- How the program ends on the arguments that the system gave.
use Rattle.std.specs.Prelude.{◌≡◌, ◌≢◌, ◌⊎◌, ◌<◌, ◌≤◌, ℕ, false, List, Option, IfSome, codes}
use Rattle.std.specs.declared.io.ErrorKind.{ErrorKind}
use Rattle.std.specs.declared.io.ErrorKind.TheVariants.{OutOfMemory}
use Rattle.lj_text.specs.Streams.{SourceState}
use Rattle.lj_run.specs.Program.{CreatesAtMost, IfRun, IsFaultTold, IsOther, IsProofLost, IsReportOfAll, IsRunAnswered, IsRunCut, MayEnd, SpellsUnsatisfiable}
use Rattle.lj_run.specs.Proof.{SinkState}
use Rattle.lj_run.specs.CommandLine.{Asked, asks_why}
use Rattle.lj_run.specs.Explanation.{IsExplained}
use Rattle.lj_run.specs.Tried.{Tried}

-- The program ended with this status where this was asked for: what standard output and standard error took is right of what is told
-- of the files, which stay but for that of the proof: it alone is created, once at most.
pub record ProgramEnds {I W : Type 0} (seen : I → SourceState) (sink : W → SinkState)
    (before after : List ℕ → Option (List ℕ)) (tried_old tried_new : Tried) (asked : Asked)
    (out_old out_new : List ℕ) (failures : ℕ) (err_old err_new : List ℕ)
    (errors status : ℕ) : Type 0 where
  pub may_end : MayEnd asked status
  pub printed : status < 2
      → IfRun asked (λ run. IsRunAnswered seen sink before run out_old out_new status)
  pub same_report : status < 2
      → IfRun asked (λ run. IsReportOfAll seen sink before run out_old out_new status)
  pub refuted : status ≡ 0 → IfRun asked (λ run. IfSome (before run.formula) SpellsUnsatisfiable)
  pub told : status < 2 → failures ≡ 0
  pub quiet : status < 2 → asks_why asked ≡ false → err_new ≡ err_old
  pub explained : status < 2 → errors ≡ 0 → IfRun asked (λ run. IsExplained I run.explains
      out_old out_new err_old err_new)
  pub untouched : 2 ≤ status → failures ≡ 0
      → (out_new ≡ out_old) ⊎ IsProofLost seen sink before asked out_old out_new
  pub cut : failures ≢ 0 → IfRun asked (λ run. IsRunCut seen before run out_old out_new)
  pub fault : 2 ≤ status → errors ≡ 0
      → IsFaultTold seen sink asked before tried_old tried_new failures err_old err_new status
  pub same_files : (path : List ℕ) → IsOther asked path → after path ≡ before path
  pub created : CreatesAtMost asked tried_old tried_new

-- the status where the arguments can't be read
abbrev pub unread_status : ErrorKind → ℕ
unread_status OutOfMemory = 2
unread_status kind = 3

-- what is told of arguments that can't be read
abbrev pub unread_text : ErrorKind → List ℕ
unread_text OutOfMemory = codes "lratjoin: NoMemory\n"
unread_text kind = codes "error: an argument isn't text\n\nFor more information, try '--help'.\n"
