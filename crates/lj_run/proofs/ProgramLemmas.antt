-- What the program tells, and how it ends.
use Rattle.std.proofs.Common.{suc, ◌≡◌, ◌<◌, ◌≤◌, ℕ, List, [], ◌∷◌, ◌++◌, ◌+◌, length, map, take, get_or, Option, Some, None, refl, sym, ap, ◌∙◌, subst, append-nil, length-append, ◌⊎◌, inl, inr, Bool, true, arith}
use Rattle.std.specs.Prelude.{All, Contains, IfOk, IfErr, IfSome, IsErrAnd, Result, Ok, Err, option_map}
use Rattle.std.specs.Io.KnownBytes.{Consumes, IsAtEnd, Keeps}
use Rattle.std.specs.Borrow.{Bor}
use Rattle.std.proofs.lemmas.List.{take_more, map-append, length-map}
use Rattle.std.proofs.lemmas.List.Elements.{All-cons, All-nil, Contains-append_left, Contains-append_right}
use Rattle.lj_text.specs.Streams.{SourceState}
use Rattle.lj_run.specs.Checking.{IsCheckFault, IsCutText}
use Rattle.lj_run.specs.FormulaReading.{GaveAll}
use Rattle.lj_run.specs.Program.{HasInputs, IfRun, IsCreated, IsFaultOf, IsOpened, IsReportOfAll, IsRunAnswered, IsRunPrinted, RunInputs, SpellsUnsatisfiable, failed_outputs, proof_status, status_code, verdict_status}
use Rattle.lj_run.specs.inner.Program.{IsAnOpenFault, IsAnswerTo, IsAskedFor, IsCreateFault, IsLostAt, IsOpenFault, fault_at, is_told_late}
use Rattle.lj_run.specs.Proof.{SinkState, IsProof}
use Rattle.lj_run.specs.Tried.{MayCreate, Tried, with_created, with_uncreated, with_unopened}
use Rattle.lj_run.specs.declared.outcome.ProofEnd.{ProofEnd}
use Rattle.lj_run.specs.declared.outcome.ProofEnd.TheVariants.{NotAsked, Written, Failed}
use Rattle.lj_clause.specs.ClauseMap.{FormulaValue}
use Rattle.lj_text.specs.Cnf.{HasFault}
use Rattle.lj_run.specs.declared.checking.Checked.{Checked}
use Rattle.lj_text.specs.declared.step.Step.{Step}
use Rattle.lj_run.specs.InTurn.{streams_by_seat}
use Rattle.lj_run.specs.CommandLine.{Asked, AskedRun, a_run, misread, paths_by_seat, the_help, the_version, the_usage}
use Rattle.lj_run.specs.declared.checking.CheckFault.{CheckFault}
use Rattle.lj_run.specs.declared.checking.CheckFault.TheVariants as check_faults
use Rattle.lj_run.specs.declared.checking.Verdict.{Verdict}
use Rattle.lj_run.specs.declared.checking.Verdict.TheVariants.{Verified, NotVerified}
use Rattle.lj_run.specs.declared.fault.Fault.{Fault}
use Rattle.lj_run.specs.declared.fault.Fault.TheVariants as faults
use Rattle.lj_run.specs.declared.outcome.RunFault.TheVariants as run_faults
use Rattle.lj_run.specs.declared.outcome.Way.{Way}
use Rattle.lj_run.specs.declared.status.Status.{Status}
use Rattle.lj_run.proofs.WayLemmas.{formula_fault}
use Rattle.lj_run.specs.inner.CommandLine.{line_asked}
use Rattle.lj_run.specs.declared.command_line.CommandLine.{CommandLine}
use Rattle.lj_clause.specs.declared.lit.TheConstants.{MAX_VARIABLE}

-- ---- what is printed

-- what is printed of a run doesn't depend on what is told beside it
pub same_report : {I W : Type 0} (seen : I → SourceState) (sink : W → SinkState) (content : List ℕ → Option (List ℕ)) (run : AskedRun) (old new : List ℕ) (status : ℕ)
    → IsRunAnswered seen sink content run old new status → IsReportOfAll seen sink content run old new status
same_report seen sink content run old new status is explains tells_progress = record {
  checked = is.checked;
  text = is.text;
  printed = record {
    inputs = record {
      opened = is.printed.inputs.opened;
      after = is.printed.inputs.after;
      streams = is.printed.inputs.streams;
      formula_is = is.printed.inputs.formula_is;
      streams_are = is.printed.inputs.streams_are;
    };
    created = is.printed.created;
    written = is.printed.written;
    created_is = is.printed.created_is;
    printed = is.printed.printed;
  };
  took = is.took;
  status_is = is.status_is;
}

-- and that of what words ask for
pub same_report_asked : {I W : Type 0} (seen : I → SourceState) (sink : W → SinkState) (content : List ℕ → Option (List ℕ)) (asked : Asked) (old new : List ℕ) (status : Status) (code : ℕ)
    → IsAnswerTo seen sink content asked old new status → code ≡ status_code status → IfRun asked (λ run. IsReportOfAll seen sink content run old new code)
same_report_asked seen sink content (a_run run) old new status code is code_is =
    subst (λ n. IsReportOfAll seen sink content run old new n) (sym code_is) (same_report seen sink content run old new (status_code status) is)
same_report_asked seen sink content the_help old new status code is code_is = tt
same_report_asked seen sink content the_version old new status code is code_is = tt
same_report_asked seen sink content (the_usage misuse) old new status code is code_is = tt
same_report_asked seen sink content misread old new status code is code_is = tt

-- ---- files

-- one more input
pub HasInputs-push : {I : Type 0} (seen : I → SourceState) (contents : List (Option (List ℕ))) (inputs : List I) (content : Option (List ℕ)) (input : I)
    → HasInputs seen contents inputs → IsOpened content (seen input) → HasInputs seen (contents ++ content ∷ []) (inputs ++ input ∷ [])
HasInputs-push seen [] [] content input h is = (is, tt)
HasInputs-push seen [] (i ∷ inputs) content input h is = absurd h
HasInputs-push seen (c ∷ contents) [] content input h is = absurd h
HasInputs-push seen (c ∷ contents) (i ∷ inputs) content input h is = (h.0, HasInputs-push seen contents inputs content input h.1 is)

-- the input at one more path
pub opened_more : {I : Type 0} (seen : I → SourceState) (before content : List ℕ → Option (List ℕ)) (paths : List (Bor (List ℕ))) (i : ℕ) (d : Bor (List ℕ)) (inputs after : List I)
    (input : I) → i < length paths → ((other : List ℕ) → content other ≡ before other) → after ≡ inputs ++ input ∷ []
    → HasInputs seen (map (λ path. before path.now) (take i paths)) inputs → IsOpened (content (get_or paths i d).now) (seen input)
    → HasInputs seen (map (λ path. before path.now) (take (i + 1) paths)) after
opened_more seen before content paths i d inputs after input low same is h opened =
    let f : Bor (List ℕ) → Option (List ℕ) = λ path. before path.now in
    let now : IsOpened (f (get_or paths i d)) (seen input) = subst (λ c. IsOpened c (seen input)) (same (get_or paths i d).now) opened in
    let more : map f (take (i + 1) paths) ≡ map f (take i paths) ++ f (get_or paths i d) ∷ [] = ap (map f) (take_more paths i d low) ∙ map-append f (take i paths) (get_or paths i d ∷ []) in
    subst (λ contents. HasInputs seen contents after) (sym more)
    (subst (λ all. HasInputs seen (map f (take i paths) ++ f (get_or paths i d) ∷ []) all) (sym is) (HasInputs-push seen (map f (take i paths)) inputs (f (get_or paths i d)) input h now))

-- inputs that were just opened haven't failed
pub inputs_unfailed : {I : Type 0} (seen : I → SourceState) (contents : List (Option (List ℕ))) (inputs : List I) → HasInputs seen contents inputs
    → All (λ input. (seen input).failures ≡ 0) inputs
inputs_unfailed seen [] [] h = All-nil (λ input. (seen input).failures ≡ 0)
inputs_unfailed seen [] (i ∷ inputs) h = absurd h
inputs_unfailed seen (c ∷ contents) [] h = absurd h
inputs_unfailed seen (c ∷ contents) (i ∷ inputs) h = All-cons (λ input. (seen input).failures ≡ 0) i inputs h.0.unfailed (inputs_unfailed seen contents inputs h.1)

-- there is an input for each path
pub length-inputs : {I : Type 0} (seen : I → SourceState) (contents : List (Option (List ℕ))) (inputs : List I) → HasInputs seen contents inputs
    → length inputs ≡ length contents
length-inputs seen [] [] h = refl
length-inputs seen [] (i ∷ inputs) h = absurd h
length-inputs seen (c ∷ contents) [] h = absurd h
length-inputs seen (c ∷ contents) (i ∷ inputs) h = ap suc (length-inputs seen contents inputs h.1)

-- what is told of files that stayed as they were
pub same_contents : (before content : List ℕ → Option (List ℕ)) (paths : List (Bor (List ℕ))) → ((other : List ℕ) → content other ≡ before other)
    → map (λ path. content path.now) paths ≡ map before (map (λ path. path.now) paths)
same_contents before content [] same = refl
same_contents before content (p ∷ paths) same =
    ap (λ c. c ∷ map (λ path. content path.now) paths) (same p.now) ∙ ap (λ cs. before p.now ∷ cs) (same_contents before content paths same)

-- the inputs, by what is told of the files as they were
inputs_before : {I : Type 0} (seen : I → SourceState) (before content : List ℕ → Option (List ℕ)) (paths items : List (Bor (List ℕ))) (inputs : List I) → paths ≡ items
    → ((other : List ℕ) → content other ≡ before other) → HasInputs seen (map (λ path. content path.now) paths) inputs
    → HasInputs seen (map before (map (λ path. path.now) items)) inputs
inputs_before seen before content paths items inputs is same h =
    subst (λ contents. HasInputs seen contents inputs) (ap (map (λ path. content path.now)) is ∙ same_contents before content items same) h

closing_before : {I : Type 0} (seen : I → SourceState) (before content : List ℕ → Option (List ℕ)) (path : Option (Bor (List ℕ))) (closing : Option I)
    → ((other : List ℕ) → content other ≡ before other) → HasInputs seen (map (λ p. content p.now) (streams_by_seat [] path)) (streams_by_seat [] closing)
    → HasInputs seen (map before (streams_by_seat [] (option_map (λ p. p.now) path))) (streams_by_seat [] closing)
closing_before seen before content None closing same h = h
closing_before seen before content (Some p) closing same h = subst (λ c. HasInputs seen (c ∷ []) (streams_by_seat [] closing)) (same p.now) h

with_closing : {I : Type 0} (seen : I → SourceState) (content : List ℕ → Option (List ℕ)) (paths : List (List ℕ)) (path : Option (List ℕ)) (inputs : List I) (closing : Option I)
    → HasInputs seen (map content paths) inputs → HasInputs seen (map content (streams_by_seat [] path)) (streams_by_seat [] closing)
    → HasInputs seen (map content (streams_by_seat paths path)) (streams_by_seat inputs closing)
with_closing seen content paths None inputs None h last = h
with_closing seen content paths None inputs (Some input) h last = absurd last
with_closing seen content paths (Some p) inputs None h last = absurd last
with_closing seen content paths (Some p) inputs (Some input) h last =
    subst (λ contents. HasInputs seen contents (inputs ++ input ∷ [])) (sym (map-append content paths (p ∷ [])))
    (HasInputs-push seen (map content paths) inputs (content p) input h last.0)

-- the inputs of the streams and of the closing one, by what is told of the files as they were
pub streams_before : {I : Type 0} (seen : I → SourceState) (before content last : List ℕ → Option (List ℕ)) (paths items : List (Bor (List ℕ))) (path : Option (Bor (List ℕ)))
    (inputs : List I) (closing : Option I) → paths ≡ items → ((other : List ℕ) → content other ≡ before other) → ((other : List ℕ) → last other ≡ content other)
    → HasInputs seen (map (λ p. content p.now) paths) inputs → HasInputs seen (map (λ p. last p.now) (streams_by_seat [] path)) (streams_by_seat [] closing)
    → HasInputs seen (map before (streams_by_seat (map (λ p. p.now) items) (option_map (λ p. p.now) path))) (streams_by_seat inputs closing)
streams_before seen before content last paths items path inputs closing is same same_last h h_last =
    with_closing seen before (map (λ p. p.now) items) (option_map (λ p. p.now) path) inputs closing (inputs_before seen before content paths items inputs is same h)
    (closing_before seen before last path closing (λ other. same_last other ∙ same other) h_last)

-- the files of a run, by what is told of them as they were
abbrev pub run_inputs : {I : Type 0} (seen : I → SourceState) (before content last : List ℕ → Option (List ℕ)) (line : CommandLine) (paths : List (Bor (List ℕ))) (opened after : I) (inputs : List I)
    (closing : Option I) → paths ≡ line.proofs.items → ((other : List ℕ) → content other ≡ before other) → ((other : List ℕ) → last other ≡ content other)
    → IsOpened (before line.formula.now) (seen opened) → HasInputs seen (map (λ p. content p.now) paths) inputs
    → HasInputs seen (map (λ p. last p.now) (streams_by_seat [] line.closing)) (streams_by_seat [] closing) → RunInputs seen before (line_asked line)
run_inputs seen before content last line paths opened after inputs closing is same same_last formula streams end = record {
  opened = opened;
  after = after;
  streams = streams_by_seat inputs closing;
  formula_is = formula;
  streams_are = streams_before seen before content last paths line.proofs.items line.closing inputs closing is same same_last streams end;
}

length-by_seat : {S : Type 0} (streams : List S) (closing : Option S) → (length streams ≤ length (streams_by_seat streams closing)) × (length (streams_by_seat streams closing) ≤ length streams + 1)
length-by_seat streams None = (omega arith, omega arith)
length-by_seat streams (Some last) = let n = length-append streams (last ∷ []) in (omega (arith, n), omega (arith, n))

-- there is a stream, and there are 65 at most
pub few_streams : {I : Type 0} (seen : I → SourceState) (content : List ℕ → Option (List ℕ)) (items : List (Bor (List ℕ))) (path : Option (List ℕ)) (streams : List I)
    → 0 < length items → length items ≤ 64 → HasInputs seen (map content (streams_by_seat (map (λ p. p.now) items) path)) streams
    → (0 < length streams) × (length streams ≤ 65)
few_streams seen content items path streams some few h =
    let paths : List (List ℕ) = map (λ (p : Bor (List ℕ)). p.now) items in
    let n : length paths ≡ length items = length-map items (λ p. p.now) in
    let one = length-by_seat paths path in
    let all : length streams ≡ length (streams_by_seat paths path) = length-inputs seen (map content (streams_by_seat paths path)) streams h ∙ length-map (streams_by_seat paths path) content in
    (omega (arith, n, one.0, one.1, all), omega (arith, n, one.0, one.1, all))

-- the file at one of a run's paths, of which this was told after the others were opened, can't be opened
pub open_fault : {I W : Type 0} (seen : I → SourceState) (sink : W → SinkState) (run : AskedRun) (before content : List ℕ → Option (List ℕ)) (old mid new : Tried) (paths : List (List ℕ)) (fault : Fault)
    → ((path : List ℕ) → Contains paths path → (path ≡ run.formula) ⊎ Contains (paths_by_seat run) path) → ((other : List ℕ) → content other ≡ before other) → mid ≡ old
    → IsAnOpenFault content paths mid new fault → IsFaultOf seen sink (a_run run) before old new fault
open_fault seen sink run before content old mid new paths (faults.Formula path f) among same tried h = absurd h
open_fault seen sink run before content old mid new paths (faults.CannotRead path) among same tried h = inl (among path.now h.0, sym (same path.now) ∙ h.1, h.2 ∙ ap (with_unopened path.now) tried)
open_fault seen sink run before content old mid new paths faults.CannotWrite among same tried h = absurd h
open_fault seen sink run before content old mid new paths (faults.CannotCreate path) among same tried h = absurd h
open_fault seen sink run before content old mid new paths (faults.ProofLost path f) among same tried h = absurd h
open_fault seen sink run before content old mid new paths (faults.NoMemory e) among same tried h = tt
open_fault seen sink run before content old mid new paths faults.OutOfMemory among same tried h = tt
open_fault seen sink run before content old mid new paths faults.Unconfirmed among same tried h = absurd h
open_fault seen sink run before content old mid new paths (faults.Usage misuse) among same tried h = absurd h
open_fault seen sink run before content old mid new paths (faults.Misread text) among same tried h = absurd h

-- FORMULA's file can't be opened
pub formula_unopened : {I W : Type 0} (seen : I → SourceState) (sink : W → SinkState) (run : AskedRun) (before : List ℕ → Option (List ℕ)) (old new : Tried) (fault : Fault)
    → IsOpenFault run.formula (before run.formula) old new fault → IsFaultOf seen sink (a_run run) before old new fault
formula_unopened seen sink run before old new (faults.Formula path f) h = absurd h
formula_unopened seen sink run before old new (faults.CannotRead path) h = inl (inl h.0, ap before h.0 ∙ h.1, h.2)
formula_unopened seen sink run before old new faults.CannotWrite h = absurd h
formula_unopened seen sink run before old new (faults.CannotCreate path) h = absurd h
formula_unopened seen sink run before old new (faults.ProofLost path f) h = absurd h
formula_unopened seen sink run before old new (faults.NoMemory e) h = tt
formula_unopened seen sink run before old new faults.OutOfMemory h = tt
formula_unopened seen sink run before old new faults.Unconfirmed h = absurd h
formula_unopened seen sink run before old new (faults.Usage misuse) h = absurd h
formula_unopened seen sink run before old new (faults.Misread text) h = absurd h

-- OUT can't be created
pub create_fault : {I W : Type 0} (seen : I → SourceState) (sink : W → SinkState) (run : AskedRun) (before : List ℕ → Option (List ℕ)) (old mid new : Tried) (fault : Fault) → mid ≡ old
    → IsCreateFault run.proof mid new fault → IsFaultOf seen sink (a_run run) before old new fault
create_fault seen sink run before old mid new (faults.Formula path f) tried h = absurd h
create_fault seen sink run before old mid new (faults.CannotRead path) tried h = absurd h
create_fault seen sink run before old mid new faults.CannotWrite tried h = absurd h
create_fault seen sink run before old mid new (faults.CannotCreate path) tried h = (h.0, h.1 ∙ ap (with_uncreated path.now) tried)
create_fault seen sink run before old mid new (faults.ProofLost path f) tried h = absurd h
create_fault seen sink run before old mid new (faults.NoMemory e) tried h = tt
create_fault seen sink run before old mid new faults.OutOfMemory tried h = tt
create_fault seen sink run before old mid new faults.Unconfirmed tried h = absurd h
create_fault seen sink run before old mid new (faults.Usage misuse) tried h = absurd h
create_fault seen sink run before old mid new (faults.Misread text) tried h = absurd h

-- no more files were created, where these were tried before
pub none_more : (path : Option (List ℕ)) (old mid : Tried) (created : List (List ℕ)) → mid ≡ old → created ≡ mid.created → (created ≡ old.created) ⊎ (created ≡ (with_created path old).created)
none_more path old mid created tried none = inl (none ∙ ap (λ (t : Tried). t.created) tried)

-- OUT was created, where it is asked for
pub one_created : (path : Option (List ℕ)) (old mid new : Tried) → mid ≡ old → new ≡ with_created path mid → MayCreate path old new
one_created path old mid new tried is = inr (ap (λ (t : Tried). t.created) (is ∙ ap (with_created path) tried))

-- the paths of the streams, and that of the closing one, are the run's
pub among_streams : (given items : List (Bor (List ℕ))) (closing : Option (List ℕ)) (path : List ℕ) → given ≡ items → Contains (map (λ p. p.now) given) path
    → Contains (streams_by_seat (map (λ p. p.now) items) closing) path
among_streams given items None path is h = subst (λ all. Contains (map (λ p. p.now) all) path) is h
among_streams given items (Some last) path is h =
    Contains-append_left (map (λ p. p.now) items) (last ∷ []) path (subst (λ all. Contains (map (λ p. p.now) all) path) is h)

pub among_closing : (paths : List (List ℕ)) (closing : Option (Bor (List ℕ))) (path : List ℕ) → Contains (map (λ p. p.now) (streams_by_seat [] closing)) path
    → Contains (streams_by_seat paths (option_map (λ p. p.now) closing)) path
among_closing paths None path h = absurd (omega (arith, h.1))
among_closing paths (Some last) path h = Contains-append_right paths (last.now ∷ []) path h

-- what holds of an error holds where it is passed on
pub passed_on : {T E : Type 0} (P : E → Type 0) (r : Result T E) (e : E) → IsErrAnd r (λ y. y ≡ e) → P e → IfErr r P
passed_on P (Ok t) e h p = tt
passed_on P (Err y) e h p = subst P (sym h) p

-- ---- what is known of a file is what its source gave

given_all : (content before after : Option (List ℕ)) (text : List ℕ) → Keeps content before → Consumes before after text → IsAtEnd after
    → IfSome content (λ bytes. bytes ≡ text)
given_all None before after text keeps consumes end = tt
given_all (Some xs) None after text keeps consumes end = absurd keeps
given_all (Some xs) (Some ys) None text keeps consumes end = absurd consumes
given_all (Some xs) (Some ys) (Some zs) text keeps consumes end = sym keeps ∙ consumes ∙ ap (λ more. text ++ more) end ∙ append-nil text

if_same : (P : List ℕ → Type 0) (content : Option (List ℕ)) (text : List ℕ) → IfSome content (λ bytes. bytes ≡ text) → P text → IfSome content P
if_same P None text same h = tt
if_same P (Some bytes) text same h = subst P (sym same) h

of_content : (P : List ℕ → Type 0) (content : Option (List ℕ)) (before after : SourceState) (text : List ℕ) → IsOpened content before → GaveAll before after text
    → P text → IfSome content P
of_content P content before after text opened all h =
    if_same P content text (given_all content before.rest after.rest text opened.bytes all.gave.rest all.ended.rest) h

-- what is told of a check that has no answer
pub check_fault : {I W : Type 0} (seen : I → SourceState) (sink : W → SinkState) (run : AskedRun) (content : List ℕ → Option (List ℕ)) (path : Bor (List ℕ)) (inputs : RunInputs seen content run)
    (before after : Tried) (old new : List ℕ) (fault : CheckFault) → path.now ≡ run.formula → IsCheckFault run.way (seen inputs.opened) (seen inputs.after) seen run.max_steps inputs.streams old new fault
    → IsFaultOf seen sink (a_run run) content before after (fault_at path fault)
check_fault seen sink run content path inputs before after old new (check_faults.Run (run_faults.Formula fault)) is h =
    let gave = formula_fault run.way (seen inputs.opened) (seen inputs.after) seen run.max_steps inputs.streams fault h.0 in
    (is, of_content (λ text. HasFault MAX_VARIABLE text fault) (content run.formula) (seen inputs.opened) (seen inputs.after) gave.text inputs.formula_is gave.all gave.has, record { inputs = inputs; fault_is = h.0 })
check_fault seen sink run content path inputs before after old new (check_faults.Run run_faults.FormulaRead) is h = inr (is, record { inputs = inputs; fault_is = h.0 })
check_fault seen sink run content path inputs before after old new (check_faults.Run (run_faults.NoMemory e)) is h = tt
check_fault seen sink run content path inputs before after old new (check_faults.Run run_faults.Unconfirmed) is h = record { inputs = inputs; fault_is = h.0 }
check_fault seen sink run content path inputs before after old new check_faults.CannotWrite is h = tt

-- the check whose output failed
pub check_cut : {I : Type 0} (way : Way) (seen : I → SourceState) (formula : Bor (List ℕ)) (before after : SourceState) (max : ℕ) (streams : List I) (old new : List ℕ) (fault : CheckFault)
    → IsCheckFault way before after seen max streams old new fault → fault_at formula fault ≡ faults.CannotWrite → IsCutText way before after seen max streams old new
check_cut way seen formula before after max streams old new (check_faults.Run (run_faults.Formula fault)) h e = cc
check_cut way seen formula before after max streams old new (check_faults.Run run_faults.FormulaRead) h e = cc
check_cut way seen formula before after max streams old new (check_faults.Run (run_faults.NoMemory refused)) h e = cc
check_cut way seen formula before after max streams old new (check_faults.Run run_faults.Unconfirmed) h e = cc
check_cut way seen formula before after max streams old new check_faults.CannotWrite h e = h

-- ---- verdicts

zero_is_verified : (end : ProofEnd) (verdict : Verdict) → 0 ≡ status_code (proof_status end (verdict_status verdict)) → verdict ≡ Verified
zero_is_verified NotAsked Verified e = refl
zero_is_verified NotAsked NotVerified e = absurd (omega arith)
zero_is_verified Written Verified e = refl
zero_is_verified Written NotVerified e = absurd (omega arith)
zero_is_verified (Failed fault) verdict e = absurd (omega arith)

answer_refutes : {I W : Type 0} (seen : I → SourceState) (sink : W → SinkState) (content : List ℕ → Option (List ℕ)) (run : AskedRun) (old new : List ℕ) (status : ℕ)
    → IsRunAnswered seen sink content run old new status → status ≡ 0 → IfSome (content run.formula) SpellsUnsatisfiable
answer_refutes seen sink content run old new status h zero_is =
    let inputs = h.printed.inputs in
    let runs = h.printed.printed.runs in
    let verified = zero_is_verified h.checked.proof h.checked.verdict (sym zero_is ∙ h.status_is) in
    of_content SpellsUnsatisfiable (content run.formula) (seen inputs.opened) (seen inputs.after) runs.gave.text inputs.formula_is runs.gave.all
    (record { formula = runs.formula; spells = runs.gave.spells; unsatisfiable = h.printed.printed.unsatisfiable verified })

-- where status 0 answers a run, no assignment satisfies what FORMULA holds, if that is told
pub run_refutes : {I W : Type 0} (seen : I → SourceState) (sink : W → SinkState) (content : List ℕ → Option (List ℕ)) (asked : Asked) (old new : List ℕ) (status : Status)
    → IsAnswerTo seen sink content asked old new status → status_code status ≡ 0 → IfRun asked (λ run. IfSome (content run.formula) SpellsUnsatisfiable)
run_refutes seen sink content (a_run run) old new status h zero_is = answer_refutes seen sink content run old new (status_code status) h zero_is
run_refutes seen sink content the_help old new status h zero_is = tt
run_refutes seen sink content the_version old new status h zero_is = tt
run_refutes seen sink content (the_usage misuse) old new status h zero_is = tt
run_refutes seen sink content misread old new status h zero_is = tt

-- ---- proofs

-- the proof that couldn't be written was asked for
pub asked_proof : {W : Type 0} (sink : W → SinkState) (f : FormulaValue) (trims : Bool) (steps : List Step) (given : Option (Bor (List ℕ))) (created written : Option W) (end : ProofEnd)
    → IsCreated sink (option_map (λ p. p.now) given) created → IsProof sink f trims steps created written end → IsAskedFor end given
asked_proof sink f trims steps given created written NotAsked h is = tt
asked_proof sink f trims steps given created written Written h is = tt
asked_proof sink f trims steps (Some x) created written (Failed fault) h is = tt
asked_proof sink f trims steps None None None (Failed fault) h is = cc
asked_proof sink f trims steps None None (Some w) (Failed fault) h is = absurd is
asked_proof sink f trims steps None (Some c) written (Failed fault) h is = absurd h

-- a sink that was just created hasn't failed
pub created_unfailed : {W : Type 0} (sink : W → SinkState) (path : Option (List ℕ)) (created : Option W) → IsCreated sink path created → IfSome created (λ w. (sink w).failures ≡ 0)
created_unfailed sink None None h = tt
created_unfailed sink None (Some w) h = absurd h
created_unfailed sink (Some p) None h = absurd h
created_unfailed sink (Some p) (Some w) h = h.1

pub ok_more : {T E : Type 0} (P Q : T → Type 0) (r : Result T E) → ((t : T) → P t → Q t) → IfOk r P → IfOk r Q
ok_more P Q (Ok t) f h = f t h
ok_more P Q (Err e) f h = tt

pub err_more : {T E : Type 0} (P Q : E → Type 0) (r : Result T E) → ((e : E) → P e → Q e) → IfErr r P → IfErr r Q
err_more P Q (Ok t) f h = tt
err_more P Q (Err e) f h = f e h

-- what is known of the fault of a proof that couldn't be written
pub lost_fault : {I W : Type 0} (seen : I → SourceState) (sink : W → SinkState) (run : AskedRun) (content : List ℕ → Option (List ℕ)) (before after : Tried) (checked : Checked) (text : List ℕ) (fault : Fault)
    → IsRunPrinted seen sink content run checked text → IsLostAt run.proof checked.proof fault → IsFaultOf seen sink (a_run run) content before after fault
lost_fault seen sink run content before after checked text (faults.Formula path f) printed h = absurd h
lost_fault seen sink run content before after checked text (faults.CannotRead path) printed h = absurd h
lost_fault seen sink run content before after checked text faults.CannotWrite printed h = absurd h
lost_fault seen sink run content before after checked text (faults.CannotCreate path) printed h = absurd h
lost_fault seen sink run content before after checked text (faults.ProofLost path f) printed h = (h.0, record { checked = checked; text = text; printed = printed; failed = h.1 })
lost_fault seen sink run content before after checked text (faults.NoMemory e) printed h = absurd h
lost_fault seen sink run content before after checked text faults.OutOfMemory printed h = absurd h
lost_fault seen sink run content before after checked text faults.Unconfirmed printed h = absurd h
lost_fault seen sink run content before after checked text (faults.Usage misuse) printed h = absurd h
lost_fault seen sink run content before after checked text (faults.Misread text') printed h = absurd h

pub lost_late : (path : Option (List ℕ)) (end : ProofEnd) (fault : Fault) → IsLostAt path end fault → (is_told_late fault ≡ true) × (fault ≡ faults.CannotWrite → ⊥) × (failed_outputs fault ≡ 0)
lost_late path end (faults.Formula p f) h = absurd h
lost_late path end (faults.CannotRead p) h = absurd h
lost_late path end faults.CannotWrite h = absurd h
lost_late path end (faults.CannotCreate p) h = absurd h
lost_late path end (faults.ProofLost p f) h = (refl, λ e. cc, refl)
lost_late path end (faults.NoMemory e) h = absurd h
lost_late path end faults.OutOfMemory h = absurd h
lost_late path end faults.Unconfirmed h = absurd h
lost_late path end (faults.Usage misuse) h = absurd h
lost_late path end (faults.Misread text) h = absurd h
