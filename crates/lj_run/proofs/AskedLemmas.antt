-- What words ask for, by how `clap` reads them.
use Rattle.std.proofs.Common.{◌≡◌, ℕ, List, [], ◌∷◌, Option, Some, None, refl, sym, ap, ap₂, ◌∙◌, subst, inl, inr, ◌≢◌, Result, Ok, Err, IfOk, is_some}
use Rattle.clap.specs.Faults.{entered_fault, fault_of, level_fault}
use Rattle.clap.specs.Kinds.{HasKind, IsAmong, Kinds}
use Rattle.clap.specs.Matches.{found_of}
use Rattle.clap.specs.Simple.{argument_words, built, entered, matches_of}
use Rattle.clap.specs.Values.{kind_of}
use Rattle.clap.specs.Walk.{Row, Text, nothing_held, rows_of, walk}
use Rattle.clap.specs.declared.error.Error.{Error}
use Rattle.clap.specs.declared.error.kind.ErrorKind.{ErrorKind}
use Rattle.clap.specs.declared.error.kind.ErrorKind.TheVariants.{OutOfMemory}
use Rattle.clap.specs.declared.parser.matches.ArgMatches.{ArgMatches}
use Rattle.lj_run.specs.CommandLine.{Asked, asked_by, asked_by_fault, asked_by_rows, kind_asked, program_app}
use Rattle.lj_run.specs.inner.CommandLine.{request_asked}
use Rattle.lj_run.specs.declared.command_line.Request.{Request}
use Rattle.lj_run.proofs.FaultKinds.{IsSingle, level_single}

-- the program has no subcommand that words could enter
enters_none : (stop : Option (Text × List Text)) → entered_fault (built program_app) stop ≡ []
enters_none None = refl
enters_none (Some p) = refl

-- words are wrong by one fault at most
single_fault : (words : List (List ℕ)) → IsSingle (fault_of program_app words)
single_fault words =
    let top = (built program_app).top in
    let stop = (walk top.rules [] nothing_held (argument_words program_app words)).stopped in
    let one = level_single top nothing_held (argument_words program_app words) (is_some (entered (built program_app) stop)) refl in
    subst (λ below. IsSingle (level_fault top [] nothing_held (argument_words program_app words) (is_some (entered (built program_app) stop)) below))
    (sym (enters_none stop)) one

only_kind : (kind : ErrorKind) (kinds : Kinds) (rows : List Row) → IsSingle kinds → IsAmong kind kinds → asked_by_fault kinds rows ≡ kind_asked kind
only_kind kind [] rows single among = absurd among
only_kind kind (k ∷ []) rows single (inl e) = ap kind_asked (sym e)
only_kind kind (k ∷ []) rows single (inr among) = absurd among
only_kind kind (k ∷ l ∷ more) rows single among = absurd single

-- words that are read with an error of another kind than the want of memory ask for what that kind says
wrong_words : (words : List (List ℕ)) (e : Error) → kind_of e ≢ OutOfMemory → HasKind (fault_of program_app words) e
    → asked_by words ≡ kind_asked (kind_of e)
unfolding asked_by
wrong_words words e other (inl memory) = absurd (other memory)
wrong_words words e other (inr among) = only_kind (kind_of e) (fault_of program_app words) (matches_of program_app words) (single_fault words) among

-- words that are read ask for what they give
right_words : (words : List (List ℕ)) (m : ArgMatches) → rows_of (found_of m) ≡ matches_of program_app words → fault_of program_app words ≡ []
    → asked_by words ≡ asked_by_rows (rows_of (found_of m))
unfolding asked_by
right_words words m rows none = ap₂ asked_by_fault none (sym rows)

-- a request that is right of what is found is right of the words
pub right_request : (words : List (List ℕ)) (m : ArgMatches) (asked : Asked) → rows_of (found_of m) ≡ matches_of program_app words
    → fault_of program_app words ≡ [] → asked ≡ asked_by_rows (rows_of (found_of m)) → asked ≡ asked_by words
right_request words m asked rows none h = h ∙ sym (right_words words m rows none)

-- a request that is right of an error is right of the words
pub wrong_request : {E : Type 0} (words : List (List ℕ)) (e : Error) (r : Result Request E) → HasKind (fault_of program_app words) e
    → IfOk r (λ request. request_asked request ≡ kind_asked (kind_of e)) → IfOk r (λ _. kind_of e ≢ OutOfMemory)
    → IfOk r (λ request. request_asked request ≡ asked_by words)
wrong_request words e (Ok request) h told other = told ∙ sym (wrong_words words e other h)
wrong_request words e (Err x) h told other = other
