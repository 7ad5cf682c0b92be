-- The outcome of streams that ran in turn.
use Rattle.std.proofs.Common.{◌≡◌, ℕ, suc, ◌+◌, true, false, cond, List, [], ◌∷◌, ◌++◌, length, map, take, drop, Option, None, Some, Result, Ok, Err, refl, sym, ap, ◌∙◌, subst, arith, add-one, add-zero, length-append}
use Rattle.std.specs.Prelude.{◌&&◌, IfSome, is_some, option_and_then, slice_get}
use Rattle.std.proofs.lemmas.List.{map-append}
use Rattle.lj_clause.specs.declared.lit.TheConstants.{MAX_VARIABLE}
use Rattle.lj_text.specs.declared.line.Line.{Line}
use Rattle.lj_text.specs.declared.line.Line.TheVariants.{Add, Delete, Import}
use Rattle.lj_text.specs.declared.lines.fault.LineFaultKind.{LineFaultKind}
use Rattle.lj_text.specs.Lines.{Said, all_said}
use Rattle.lj_book.specs.declared.entry.Entry.{Entry}
use Rattle.lj_book.specs.declared.refusal.Refusal.{Refusal}
use Rattle.lj_book.specs.State.{live, steps_of}
use Rattle.lj_book.specs.Named.{NamedState, named_opening, IsNamedReached, after_named, beneath}
use Rattle.lj_book.specs.NamedReplies.{named_drop, named_import, named_inside}
use Rattle.lj_book.specs.NamedInside.{named_inside_entry}
use Rattle.lj_book.specs.NamedEntries.{named_import_entry}
use Rattle.lj_book.specs.Calls.{drop_entry}
use Rattle.lj_share.specs.Refusals.{IsRefusedLine}
use Rattle.lj_share.specs.declared.numbered.Numbered.{Numbered}
use Rattle.lj_run.specs.Run.{if_accepted, state_after_line, state_after_said, state_after_lines, has_verdict, StreamEnds, IsStreamRun}
use Rattle.lj_run.specs.inner.Block.{said_in_block}
use Rattle.lj_run.specs.inner.BookSeat.{LeadsOn, leads_further}
use Rattle.lj_run.proofs.StreamLemmas.{take_next}
use Rattle.lj_clause.specs.ClauseMap.{FormulaValue, formula_map}
use Rattle.std.specs.List.{list_any}
use Rattle.lj_text.specs.declared.step.Step.{Step}
use Rattle.lj_text.specs.Steps.{replay, refutes, adds_empty}
use Rattle.lj_clause.specs.ClauseMap.{ClauseMap}
use Rattle.lj_text.specs.Streams.{SourceState}
use Rattle.lj_run.specs.declared.outcome.Outcome.{Outcome}
use Rattle.lj_run.specs.declared.outcome.Report.{Report}
use Rattle.lj_run.specs.InTurn.{IsOutcome, IsReport, RunInTurn}
use Rattle.lj_run.proofs.WayLemmas.{verified_is}

-- ---- an entered line makes one entry

OneMore : NamedState → NamedState → Type 0
OneMore s t = (e : Entry) × (after_named s e ≡ t)

one_accepted : {A : Type 0} (r : Result A Refusal) (s t : NamedState) (e : Entry) → if_accepted r (after_named s e) ≡ Some t → OneMore s t
unfolding OneMore
one_accepted (Ok x) s t e is = (e, cc)
one_accepted (Err refusal) s t e is = cc

one_entered : (seat : ℕ) (s t : NamedState) (line : Line) → state_after_line seat s line ≡ Some t → OneMore s t
one_entered seat s t (Add a) is = one_accepted (named_inside s seat a) s t (named_inside_entry s seat a) is
one_entered seat s t (Delete numbers) is = one_accepted (named_drop s seat numbers) s t (drop_entry (beneath s) seat numbers) is
one_entered seat s t (Import number clause) is = one_accepted (named_import s seat number clause) s t (named_import_entry s seat number clause) is

pub entered_longer : (seat : ℕ) (s t : NamedState) (line : Line) → state_after_line seat s line ≡ Some t → length t.history ≡ length s.history + 1
unfolding OneMore
entered_longer seat s t line is =
    let more = one_entered seat s t line is in
    ap (λ (u : NamedState). length u.history) (sym more.1) ∙ length-append s.history (more.0 ∷ [])

said_formula : (seat : ℕ) (s t : NamedState) (says : Result Line LineFaultKind) → state_after_said seat s says ≡ Some t → t.formula ≡ s.formula
unfolding OneMore
said_formula seat s t (Ok line) is = ap (λ (u : NamedState). u.formula) (sym (one_entered seat s t line is).1)
said_formula seat s t (Err kind) is = cc

-- lines leave the formula
formula_kept : (seat : ℕ) (s t : NamedState) (lines : List Said) → state_after_lines seat s lines ≡ Some t → t.formula ≡ s.formula
formula_kept seat s t [] is = let same : s ≡ t = cc in ap (λ (u : NamedState). u.formula) (sym same)
formula_kept seat s t (x ∷ xs) is =
    elim (has_verdict s) as (λ b. cond b None (option_and_then (λ r. state_after_lines seat r xs) (state_after_said seat s x.says)) ≡ Some t → t.formula ≡ s.formula) [
      | true ↦ λ none. cc
      | false ↦ λ some. elim (state_after_said seat s x.says) as (λ o. state_after_said seat s x.says ≡ o → option_and_then (λ r. state_after_lines seat r xs) o ≡ Some t → t.formula ≡ s.formula) [
        | None ↦ λ here none. cc
        | Some r ↦ λ here later. formula_kept seat r t xs later ∙ said_formula seat s r x.says here
      ] refl some
    ] is

-- one line more
pub one_more_line : (seat seat' : ℕ) (s t u : NamedState) (lines : List Numbered) (n : ℕ) (line : Numbered) → LeadsOn seat s (map said_in_block (take n lines)) seat' t → slice_get lines n ≡ Some line → has_verdict t ≡ false → state_after_line seat' t line.line ≡ Some u
    → LeadsOn seat s (map said_in_block (take (n + 1) lines)) seat' u
one_more_line seat seat' s t u lines n line leads is goes_on entered =
    let one : take (n + 1) lines ≡ take n lines ++ line ∷ [] = rw add-one (take_next lines n line is) in
    let here : state_after_lines seat' t (said_in_block line ∷ []) ≡ Some u = (λ i. cond (goes_on i) None (option_and_then (λ r. state_after_lines seat' r []) (entered i))) in
    subst (λ ls. LeadsOn seat s ls seat' u) (sym (ap (map said_in_block) one ∙ map-append said_in_block (take n lines) (line ∷ [])))
    (leads_further seat seat' seat' s t u (map said_in_block (take n lines)) (said_in_block line ∷ []) leads (here, refl))

-- ---- the run of a stream

module _ {S : Type 0} (seen : S → SourceState) (seat seat' : ℕ) (s next : NamedState) (stream : S) (report : Report S)
    (run : IsStreamRun (λ lines. LeadsOn seat s lines seat' next) (λ line e. IsRefusedLine seat' line e next) (has_verdict next ≡ true) (has_verdict next ≡ false) seen stream report) where
  pub report_is : IsReport seen seat s next stream report
  report_is = record {
    text = run.text;
    gave = run.gave;
    count = run.count;
    enters = run.enters.0;
    counts = run.counts;
    ends = subst (λ n. StreamEnds (λ line e. IsRefusedLine n line e next) (has_verdict next ≡ true) (has_verdict next ≡ false) (drop run.count (all_said MAX_VARIABLE run.text)) report.end) run.enters.1 run.ends;
    kept = run.kept;
    failed_read = run.failed_read;
    no_memory_left = run.no_memory_left;
    ended = run.ended;
    failures = run.failures;
    whole = run.whole;
  }

  pub same_formula : next.formula ≡ s.formula
  same_formula = formula_kept seat s next (take run.count (all_said MAX_VARIABLE run.text)) run.enters.0

-- ---- the run of all

-- one stream more
pub one_more_run : {S : Type 0} (seen : S → SourceState) (seat : ℕ) (streams : List S) (stream : S) (s mid final : NamedState) (reports : List (Report S)) (report : Report S)
    → RunInTurn seen seat streams s reports mid → IsReport seen (seat + length streams) mid final stream report → RunInTurn seen seat (streams ++ stream ∷ []) s (reports ++ report ∷ []) final
one_more_run seen seat [] stream s mid final [] report run is =
    (final, subst (λ t. IsReport seen seat t final stream report) (sym run) (subst (λ n. IsReport seen n mid final stream report) (add-zero seat) is), refl)
one_more_run seen seat [] stream s mid final (r ∷ reports) report run is = absurd run
one_more_run seen seat (x ∷ streams) stream s mid final [] report run is = absurd run
one_more_run seen seat (x ∷ streams) stream s mid final (r ∷ reports) report run is =
    (run.0, run.1, one_more_run seen (seat + 1) streams stream run.0 mid final reports report run.2 (subst (λ n. IsReport seen n mid final stream report) (further seat (length streams)) is))
  where
    further : (n k : ℕ) → n + (suc k) ≡ (n + 1) + k
    further n k = omega arith

pub outcome_is : {S : Type 0} (seen : S → SourceState) (f : FormulaValue) (max : ℕ) (streams : List S) (start final : NamedState) (outcome : Outcome S)
    → start ≡ named_opening f (length streams) max → final.formula ≡ start.formula → RunInTurn seen 0 streams start outcome.reports.items final
    → IsNamedReached final → outcome.steps ≡ steps_of final.history → replay (formula_map final.formula) (steps_of final.history) ≡ Some (live (beneath final))
    → is_some outcome.verified ≡ refutes final.formula (steps_of final.history) → IfSome outcome.verified (λ g. g ≡ final.formula) → IsOutcome seen f max streams outcome
outcome_is seen f max streams start final outcome opened kept run reached steps replayed refuted verified =
    let same : final.formula ≡ f = kept ∙ ap (λ (s : NamedState). s.formula) opened in
    record {
      final = final;
      runs = subst (λ s. RunInTurn seen 0 streams s outcome.reports.items final) opened run;
      same = same;
      legal = reached;
      steps = steps;
      replayed = ap (λ g. replay (formula_map g) outcome.steps) (sym same) ∙ ap (replay (formula_map final.formula)) steps ∙ replayed;
      verified = verified_is outcome.verified f final.formula (refutes f outcome.steps) same (refuted ∙ ap (λ g. refutes g (steps_of final.history)) same ∙ ap (refutes f) (sym steps)) verified;
    }

-- where the replay is defined, the formula is refuted exactly where some step adds the empty clause
pub refutes_any : (v : Option FormulaValue) (f : FormulaValue) (ss : List Step) (p : ClauseMap) → is_some v ≡ refutes f ss → replay (formula_map f) ss ≡ Some p → is_some v ≡ list_any adds_empty ss
refutes_any v f ss p is e = is ∙ ap (λ o. is_some o && list_any adds_empty ss) e
