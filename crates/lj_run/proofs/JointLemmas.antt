-- The calls of a stream's lines.
use Rattle.std.proofs.Common.{◌≡◌, ℕ, zero, suc, ◌+◌, ◌≤◌, true, List, [], ◌∷◌, ◌++◌, length, map, take, Option, None, Some, Ok, Err, refl, sym, ap, ◌∙◌, arith, length-append}
use Rattle.std.specs.Prelude.{Result, IfSome, OnSome, is_some, slice_get}
use Rattle.std.proofs.lemmas.List.{map-append, length-map}
use Rattle.lj_clause.specs.declared.lit.TheConstants.{MAX_VARIABLE}
use Rattle.lj_text.specs.declared.line.Line.{Line}
use Rattle.lj_text.specs.declared.line.Line.TheVariants.{Add, Delete, Import}
use Rattle.lj_text.specs.declared.lines.fault.LineFaultKind.{LineFaultKind}
use Rattle.lj_text.specs.Lines.{Said, all_said}
use Rattle.lj_text.specs.Streams.{SourceState}
use Rattle.lj_book.specs.declared.entry.Call.{Call}
use Rattle.lj_book.specs.declared.refusal.Refusal.{Refusal}
use Rattle.lj_share.specs.Entries.{call_of}
use Rattle.lj_share.specs.declared.numbered.Numbered.{Numbered}
use Rattle.lj_share.specs.Seats.{SeatValue}
use Rattle.lj_run.specs.declared.outcome.Report.{Report}
use Rattle.lj_run.specs.Joint.{said_call, AreCallsOf, IsStreamBeside}
use Rattle.lj_run.specs.Run.{says_addition, says_deletion, says_import, how_many, AreCountsOf, IsStreamRun}
use Rattle.lj_run.specs.inner.Block.{said_in_block}
use Rattle.lj_run.specs.inner.Joint.{AreCallsFurther}
use Rattle.lj_run.proofs.StreamLemmas.{at_below}

-- how many of the lines are right
of_lines : List Said → ℕ
of_lines lines = how_many says_addition lines + how_many says_deletion lines + how_many says_import lines

one_of_lines : (says : Result Line LineFaultKind) (call : Call) (at : ℕ) (lines : List Said) → said_call says ≡ Some call → of_lines (record { line = at; says = says } ∷ lines) ≡ suc (of_lines lines)
unfolding of_lines
one_of_lines (Ok (Add a)) call at lines is = omega arith
one_of_lines (Ok (Delete numbers)) call at lines is = omega arith
one_of_lines (Ok (Import number clause)) call at lines is = omega arith
one_of_lines (Err kind) call at lines is = cc

all_of_lines : (lines : List Said) (made : List Call) → AreCallsOf lines made → length made ≡ of_lines lines
unfolding of_lines
all_of_lines [] [] are = refl
all_of_lines [] (call ∷ made) are = cc
all_of_lines (line ∷ lines) [] are = cc
all_of_lines (line ∷ lines) (call ∷ made) are =
    let first : said_call line.says ≡ Some call = cc in
    let rest : AreCallsOf lines made = cc in
    ap suc (all_of_lines lines made rest) ∙ sym (one_of_lines line.says call line.line lines first)

-- the calls of lines are as many as are counted
pub as_many_counted : (lines : List Said) (made : List Call) (added deleted imported : ℕ) → AreCallsOf lines made → AreCountsOf lines added deleted imported → length made ≡ added + deleted + imported
unfolding of_lines
as_many_counted lines made added deleted imported are c =
    let all = all_of_lines lines made are in
    let a = c.added_is in
    let d = c.deleted_is in
    let i = c.imported_is in
    omega (arith, all, a, d, i)

-- the calls of a block's lines
calls_said : (lines : List Numbered) → map (λ (call : Call). Some call) (map (λ (l : Numbered). call_of l.line) lines) ≡ map (λ (said : Said). said_call said.says) (map said_in_block lines)
calls_said [] = refl
calls_said (l ∷ lines) = ap (λ cs. Some (call_of l.line) ∷ cs) (calls_said lines)

pub calls_made : (made now : List Call) (lines : List Numbered) → now ≡ made ++ map (λ (l : Numbered). call_of l.line) lines
    → map (λ (call : Call). Some call) now ≡ map (λ (call : Call). Some call) made ++ map (λ (said : Said). said_call said.says) (map said_in_block lines)
calls_made made now lines is =
    ap (map (λ (call : Call). Some call)) is ∙ map-append (λ (call : Call). Some call) made (map (λ (l : Numbered). call_of l.line) lines)
    ∙ ap (λ cs. map (λ (call : Call). Some call) made ++ cs) (calls_said lines)

pub calls_many : (made now : List Call) (lines : List Numbered) (count : ℕ) → count ≤ length lines → now ≡ made ++ map (λ (l : Numbered). call_of l.line) (take count lines) → length now ≡ length made + count
calls_many made now lines count below is =
    ap length is ∙ length-append made (map (λ (l : Numbered). call_of l.line) (take count lines))
    ∙ ap (λ n. length made + n) (length-map (take count lines) (λ (l : Numbered). call_of l.line) ∙ length_taken lines count below)
  where
    length_taken : {X : Type 0} (xs : List X) (n : ℕ) → n ≤ length xs → length (take n xs) ≡ n
    length_taken xs zero below = refl
    length_taken [] (suc n) below = absurd (omega arith)
    length_taken (x ∷ xs) (suc n) below = ap suc (length_taken xs n (omega arith))

-- ---- how lines are entered

-- what comes with a verdict
pub with_some : {A : Type 0} (o : Option A) (P : Type 0) → OnSome o P → is_some o ≡ true → P
with_some None P h is = absurd cc
with_some (Some x) P h is = h

-- as many were entered as there are, at most
pub entered_within : (lines : List Numbered) (count : ℕ) (refusal : Option Refusal) (P : Refusal → Numbered → Type 0) → (refusal ≡ None → count ≡ length lines)
    → IfSome refusal (λ e. (line : Numbered) × (slice_get lines count ≡ Some line) × P e line) → count ≤ length lines
entered_within lines count None P all refused = let is = all refl in omega (arith, is)
entered_within lines count (Some e) P all refused = let below = at_below lines count refused.0 refused.1 in omega (arith, below)

pub with_unit : (lines : List Numbered) (count : ℕ) (refusal : Option Refusal) (P : Refusal → Numbered → Type 0) → IfSome refusal (λ e. (line : Numbered) × (slice_get lines count ≡ Some line) × P e line)
    → IfSome refusal (λ e. (line : Numbered) × (slice_get lines count ≡ Some line) × P e line × Unit {0})
with_unit lines count None P refused = tt
with_unit lines count (Some e) P refused = (refused.0, refused.1, refused.2, tt)

-- a stream ran under a new seat
pub worker_ran : {S : Type 0} (seen : S → SourceState) (refuses : SeatValue → Line → Refusal → Type 0) (refuted : Type 0) (seat now : SeatValue) (stream : S) (report : Report S) → seat.calls ≡ []
    → IsStreamRun (λ lines. AreCallsFurther seat lines now) (refuses now) refuted (Unit {0}) seen stream report → IsStreamBeside seen refuses refuted now stream report × (now.number ≡ seat.number)
worker_ran seen refuses refuted seat now stream report fresh run =
    let lines = take run.count (all_said MAX_VARIABLE run.text) in (
      record {
        text = run.text;
        gave = run.gave;
        count = run.count;
        enters = sym (run.enters.0 ∙ ap (λ (made : List Call). map (λ (call : Call). Some call) made ++ map (λ (said : Said). said_call said.says) lines) fresh);
        counts = run.counts;
        ends = run.ends;
        kept = run.kept;
        failed_read = run.failed_read;
        no_memory_left = run.no_memory_left;
        ended = run.ended;
        failures = run.failures;
        whole = run.whole;
      },
      run.enters.1,
    )
