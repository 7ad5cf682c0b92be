-- What the words of the command line ask for.
use Rattle.std.specs.Prelude.{◌&&◌, ◌||◌, ◌^◌, ℕ, Bool, List, [], ◌∷◌, length, nat_lt, true, false, Option, Some, None, if◌then◌else◌, option_and_then, unwrap_or, codes}
use Rattle.std.specs.List.{list_any}
use Rattle.std.specs.Option.{option_eq}
use Rattle.std.specs.Str.{bytes_eq}
use Rattle.clap.specs.Faults.{fault_of}
use Rattle.clap.specs.Kinds.{Kinds}
use Rattle.clap.specs.Simple.{App, matches_of, new_app, new_rule, on_top, with_rule}
use Rattle.clap.specs.Walk.{Row, Rule, all_of, first_of}
use Rattle.clap.specs.declared.builder.action.ArgAction.TheVariants.{Append, Set, SetTrue}
use Rattle.clap.specs.declared.error.kind.ErrorKind.{ErrorKind}
use Rattle.clap.specs.declared.error.kind.ErrorKind.TheVariants.{DisplayHelp, DisplayVersion}
use Rattle.lj_text.specs.Bytes.{digits_value}
use Rattle.lj_run.specs.declared.misuse.Misuse.{Misuse}
use Rattle.lj_run.specs.declared.misuse.Misuse.TheVariants.{NoFormula, TooManyProofs, NoLimit, Overwrites}
use Rattle.lj_run.specs.declared.outcome.Way.{Way}
use Rattle.lj_run.specs.declared.outcome.Way.TheVariants.{OnThreads, InTurn}
use Rattle.lj_run.specs.InTurn.{streams_by_seat}
use Rattle.lj_clause.specs.declared.formula.TheConstants.{MAX_CLAUSES}

-- ---- the command line

-- an argument that has to be given, once, with a value
abbrev pub path_rule : List ℕ → Rule
path_rule id = record (new_rule id) { action = Some Set; required = true }

-- an argument that has to be given, with one value or more, each word one
abbrev pub paths_rule : List ℕ → Rule
paths_rule id = record (new_rule id) { action = Some Append; required = true }

-- an option of this long name, which may be given once, with a value
abbrev pub option_rule : List ℕ → Rule
option_rule name = record (new_rule name) { long = Some name; value_names = 1; action = Some Set }

-- an option of this long name, which may be given once, without a value
abbrev pub flag_rule : List ℕ → Rule
flag_rule name = record (new_rule name) { long = Some name; action = Some SetTrue }

-- the program without its arguments: it has a version, and its own name isn't among the words
abbrev pub bare_app : App
bare_app = on_top (λ s. record s { has_version = true; no_binary_name = true })
    (new_app (codes "lratjoin"))

-- FORMULA and then each PROOF
abbrev pub paths_app : App
paths_app = with_rule (with_rule bare_app (path_rule (codes "FORMULA")))
    (paths_rule (codes "PROOF"))

-- FORMULA, each PROOF and the options of a run
abbrev pub run_app : App
run_app = with_rule
    (with_rule
    (with_rule
    (with_rule (with_rule paths_app (option_rule (codes "close"))) (flag_rule (codes "in-turn")))
    (option_rule (codes "proof"))) (flag_rule (codes "trim"))) (option_rule (codes "max-steps"))

-- those, and the options that are about what is told beside the run's report
abbrev pub program_app : App
program_app = with_rule (with_rule run_app (flag_rule (codes "explain")))
    (flag_rule (codes "progress"))

-- ---- what words ask for

-- What a run is asked for: the paths of the formula, of the streams in their order, and of the closing stream, the most
-- additions that it accepts, the way in which the streams are run, the path that the proof is written to, whether it is trimmed, whether it is
-- told why streams end at a line, and whether it is told how far they are while they run.
pub record AskedRun : Type 0 where
  pub formula : List ℕ
  pub proofs : List (List ℕ)
  pub closing : Option (List ℕ)
  pub max_steps : ℕ
  pub way : Way
  pub proof : Option (List ℕ)
  pub trims : Bool
  pub explains : Bool
  pub tells_progress : Bool

-- What words ask for: a run, or to be told the help, the version, or what is wrong with them, by the program's own rules or by those
-- of `clap`.
pub data Asked : Type 0 where
  a_run : AskedRun → Asked
  the_help : Asked
  the_version : Asked
  the_usage : Misuse → Asked
  misread : Asked

-- the paths of the streams of a run by their seats: the closing one has the last
abbrev pub paths_by_seat : AskedRun → List (List ℕ)
paths_by_seat run = streams_by_seat run.proofs run.closing

-- the greatest number of additions that a run accepts where words don't say it
abbrev pub most_steps : ℕ
most_steps = MAX_CLAUSES

-- the number, where it is a limit of additions
abbrev pub as_limit : ℕ → Option ℕ
as_limit n = if nat_lt n (2 ^ 32) then Some n else None

-- the limit of additions that a text of decimal digits writes
abbrev pub limit_of : List ℕ → Option ℕ
limit_of text = option_and_then as_limit (digits_value text)

-- the limit that the value of --max-steps writes, and the greatest where there is none
abbrev pub steps_of_value : Option (List ℕ) → Option ℕ
steps_of_value None = Some most_steps
steps_of_value (Some text) = limit_of text

-- from 1 to 64 streams
abbrev pub is_run_of : List (List ℕ) → Bool
is_run_of proofs = nat_lt 0 (length proofs) && nat_lt (length proofs) 65

-- one after the other where that is asked, and where there is one PROOF, beside which nothing runs; else on threads
abbrev pub way_of : Bool → ℕ → Way
way_of in_turn proofs = if in_turn || nat_lt proofs 2 then InTurn else OnThreads

-- the run of these paths in this way, where the limit of additions is one
abbrev pub run_within : List ℕ → List (List ℕ) → Option (List ℕ) → Option ℕ → Way → Asked
run_within formula proofs closing (Some max_steps) way =
    a_run (record {
      formula = formula;
      proofs = proofs;
      closing = closing;
      max_steps = max_steps;
      way = way;
      proof = None;
      trims = false;
      explains = false;
      tells_progress = false;
    })
run_within formula proofs closing None way = the_usage NoLimit

-- the values of FORMULA and PROOF, of --close and --max-steps, and the way; words that `clap` reads have a FORMULA and a PROOF
abbrev pub run_asked : Option (List ℕ) → List (List ℕ) → Option (List ℕ) → Option (List ℕ) → Way
    → Asked
run_asked (Some formula) proofs closing max_steps way =
    if is_run_of proofs then run_within formula proofs closing (steps_of_value max_steps) way
    else the_usage TooManyProofs
run_asked None proofs closing max_steps way = the_usage NoFormula

-- whether a run reads the file at this path: paths are taken as written
abbrev pub is_input : AskedRun → List ℕ → Bool
is_input run path = bytes_eq run.formula path
    || (list_any (λ proof. bytes_eq proof path) run.proofs
    || option_eq bytes_eq run.closing (Some path))

-- the run with its proof at this path, which isn't to overwrite what the run reads
abbrev pub run_with_proof : AskedRun → List ℕ → Bool → Asked
run_with_proof run path trims = if is_input run path then the_usage Overwrites
    else a_run (record run { proof = Some path; trims = trims })

-- what is asked for with the value of --proof, and with --trim or without it: without --proof it does nothing
abbrev pub with_proof : Asked → Option (List ℕ) → Bool → Asked
with_proof (a_run run) (Some path) trims = run_with_proof run path trims
with_proof (a_run run) None trims = a_run run
with_proof the_help proof trims = the_help
with_proof the_version proof trims = the_version
with_proof (the_usage misuse) proof trims = the_usage misuse
with_proof misread proof trims = misread

-- what is asked for with --explain, or without it
abbrev pub with_explain : Asked → Bool → Asked
with_explain (a_run run) explains = a_run (record run { explains = explains })
with_explain the_help explains = the_help
with_explain the_version explains = the_version
with_explain (the_usage misuse) explains = the_usage misuse
with_explain misread explains = misread

-- what is asked for with --progress, or without it
abbrev pub with_progress : Asked → Bool → Asked
with_progress (a_run run) tells_progress = a_run (record run { tells_progress = tells_progress })
with_progress the_help tells_progress = the_help
with_progress the_version tells_progress = the_version
with_progress (the_usage misuse) tells_progress = the_usage misuse
with_progress misread tells_progress = misread

-- the run with --explain or without it, and with --progress or without it
abbrev pub told_so : AskedRun → Bool → Bool → AskedRun
told_so run explains tells_progress =
    record run { explains = explains; tells_progress = tells_progress }

-- whether it is to be told why streams end at a line
abbrev pub asks_why : Asked → Bool
asks_why (a_run run) = run.explains
asks_why the_help = false
asks_why the_version = false
asks_why (the_usage misuse) = false
asks_why misread = false

-- whether the flag of this name is given, by its value
abbrev pub is_given : List ℕ → List Row → Bool
is_given name rows = option_eq bytes_eq (first_of name rows) (Some (codes "true"))

-- what is asked for by what the words give, but for the proof
abbrev pub run_by_rows : List Row → Asked
run_by_rows rows = run_asked (first_of (codes "FORMULA") rows)
    (unwrap_or (all_of (codes "PROOF") rows) [])
    (first_of (codes "close") rows) (first_of (codes "max-steps") rows)
    (way_of (is_given (codes "in-turn") rows)
    (length (unwrap_or (all_of (codes "PROOF") rows) [])))

-- what is asked for by what the words give
abbrev pub asked_by_rows : List Row → Asked
asked_by_rows rows = with_progress (with_explain
    (with_proof (run_by_rows rows) (first_of (codes "proof") rows) (is_given (codes "trim") rows))
    (is_given (codes "explain") rows)) (is_given (codes "progress") rows)

-- what words ask for that `clap` doesn't read, by this kind
abbrev pub kind_asked : ErrorKind → Asked
kind_asked DisplayHelp = the_help
kind_asked DisplayVersion = the_version
kind_asked kind = misread

-- what words ask for, by the fault that is found in them first, and by what they give
abbrev pub asked_by_fault : Kinds → List Row → Asked
asked_by_fault [] rows = asked_by_rows rows
asked_by_fault (kind ∷ more) rows = kind_asked kind

-- what words ask for, those after the program's own name, as `clap` reads a command line
unfoldable pub asked_by : List (List ℕ) → Asked
asked_by words = asked_by_fault (fault_of program_app words) (matches_of program_app words)
