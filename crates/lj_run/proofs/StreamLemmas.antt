-- The run of one stream.
use Rattle.std.proofs.Common.{◌≡◌, ℕ, zero, suc, ◌+◌, ◌≤◌, ◌<◌, true, false, cond, List, [], ◌∷◌, ◌++◌, length, map, filter, take, drop, Bool, Option, None, Some, Result, Ok, Err, refl, sym, ap, ◌∙◌, subst, inl, arith, add-one, add-zero, append_assoc, length-append}
use Rattle.std.specs.Prelude.{slice_get, IfSome}
use Rattle.std.proofs.lemmas.List.{append-nil}
use Rattle.std.proofs.lemmas.List.Elements.{filter-append}
use Rattle.lj_clause.specs.declared.memory.NoMemory.{NoMemory}
use Rattle.lj_clause.specs.declared.lit.TheConstants.{MAX_VARIABLE}
use Rattle.lj_text.specs.declared.line.Line.{Line}
use Rattle.lj_text.specs.declared.line.Line.TheVariants.{Add, Delete, Import}
use Rattle.lj_text.specs.declared.lines.fault.LineFault.{LineFault}
use Rattle.lj_text.specs.declared.lines.fault.LineFaultKind.{LineFaultKind}
use Rattle.lj_text.specs.declared.lines.fault.LineFaultKind.TheVariants as kinds
use Rattle.lj_text.specs.Lines.{Said, all_said}
use Rattle.lj_text.specs.LinesRead.{LinesRead, LineReaderStandsAt, is_line_no_memory}
use Rattle.lj_text.specs.Streams.{SourceState, HasGiven}
use Rattle.lj_book.specs.declared.refusal.Refusal.{Refusal}
use Rattle.lj_share.specs.declared.numbered.Numbered.{Numbered}
use Rattle.lj_run.specs.declared.outcome.End.{End}
use Rattle.lj_run.specs.declared.outcome.End.TheVariants.{Ended, Stopped, Line as AtLine}
use Rattle.lj_run.specs.declared.outcome.LineEnd.TheVariants.{Fault, Refused, ReadFailed}
use Rattle.lj_run.specs.declared.reading.Miss.{Miss}
use Rattle.lj_run.specs.declared.reading.Miss.TheVariants.{Failed, AtFault}
use Rattle.lj_run.specs.declared.reading.Next.TheVariants as nexts
use Rattle.lj_run.specs.declared.stream.Tally.{Tally}
use Rattle.lj_run.specs.Reading.{IsMemoryRefused, FailsAt, AreWhole}
use Rattle.lj_run.specs.Run.{says_addition, says_deletion, says_import, how_many, AreCountsOf, MeetsFault, IfReadFailed, IfMemoryRefused, failed_reads, judged_count, KeepsRefused, StreamEnds, IsStreamRun}
use Rattle.lj_run.specs.inner.Block.{said_in_block, AreNext, BlockRead, EndsInBlock}
use Rattle.lj_run.specs.inner.Joint.{report_of}
use Rattle.lj_run.specs.inner.Reading.{LineRead, LineMissed, IsMiss, IfOutOfMemory, reads_failed, with_missed}
use Rattle.lj_run.specs.inner.Tally.{with_count, with_lines, with_end, missed_at}
use Rattle.lj_run.proofs.BlockLemmas.{line_without_memory, whole_before}
use Rattle.lj_run.proofs.GivenLemmas.{given_none, given_on}

-- ---- places in lists

same_element : {X : Type 0} (x y : X) → Some x ≡ Some y → x ≡ y
same_element x y e = cc

pub take_next : {X : Type 0} (xs : List X) (n : ℕ) (x : X) → slice_get xs n ≡ Some x → take (suc n) xs ≡ take n xs ++ x ∷ []
take_next [] n x e = cc
take_next (y ∷ xs) zero x e = ap (λ z. z ∷ []) (same_element y x e)
take_next (y ∷ xs) (suc n) x e = ap (λ zs. y ∷ zs) (take_next xs n x e)

pub first_left : {X : Type 0} (xs : List X) (n : ℕ) → slice_get (drop n xs) 0 ≡ slice_get xs n
first_left [] zero = refl
first_left [] (suc n) = refl
first_left (x ∷ xs) zero = refl
first_left (x ∷ xs) (suc n) = first_left xs n

pub none_left : {X : Type 0} (xs : List X) (n : ℕ) → slice_get xs n ≡ None → drop n xs ≡ []
none_left [] zero e = refl
none_left [] (suc n) e = refl
none_left (x ∷ xs) zero e = cc
none_left (x ∷ xs) (suc n) e = none_left xs n e

pub at_below : {X : Type 0} (xs : List X) (n : ℕ) (x : X) → slice_get xs n ≡ Some x → n < length xs
at_below [] n x is = cc
at_below (y ∷ xs) zero x is = omega arith
at_below (y ∷ xs) (suc n) x is = let below = at_below xs n x is in omega (arith, below)

-- the lines up to so many of a block
taken_lines : (said : List Said) (handed : ℕ) (lines : List Numbered) (count : ℕ) → AreNext said handed lines → count ≤ length lines → take (handed + count) said ≡ take handed said ++ map said_in_block (take count lines)
taken_lines said handed lines zero next below = ap (λ n. take n said) (add-zero handed) ∙ sym (append-nil (take handed said))
taken_lines said handed [] (suc count) next below = absurd (omega arith)
taken_lines said handed (line ∷ lines) (suc count) next below =
    let one : take (handed + 1) said ≡ take handed said ++ said_in_block line ∷ [] = rw add-one (take_next said handed (said_in_block line) next.0) in
    let place : handed + suc count ≡ (handed + 1) + count = omega arith in
    ap (λ n. take n said) place ∙ taken_lines said (handed + 1) lines count next.1 (omega arith)
    ∙ ap (λ ls. ls ++ map said_in_block (take count lines)) one ∙ append_assoc (take handed said) (said_in_block line ∷ []) (map said_in_block (take count lines))

-- the one of them at this place
next_at : (said : List Said) (handed : ℕ) (lines : List Numbered) (count : ℕ) (line : Numbered) → AreNext said handed lines → slice_get lines count ≡ Some line → slice_get said (handed + count) ≡ Some (said_in_block line)
next_at said handed [] count line next is = cc
next_at said handed (l ∷ lines) zero line next is =
    let same : l ≡ line = cc in
    subst (λ n. slice_get said n ≡ Some (said_in_block line)) (sym (add-zero handed)) (subst (λ k. slice_get said handed ≡ Some (said_in_block k)) same next.0)
next_at said handed (l ∷ lines) (suc count) line next is =
    let place : (handed + 1) + count ≡ handed + suc count = omega arith in
    subst (λ n. slice_get said n ≡ Some (said_in_block line)) place (next_at said (handed + 1) lines count line next.1 is)

-- ---- what is counted

how_many_more : (is : Result Line LineFaultKind → Bool) (lines : List Said) (said : Said) → how_many is (lines ++ said ∷ []) ≡ how_many is lines + how_many is (said ∷ [])
how_many_more is lines said = ap length (filter-append (λ (s : Said). is s.says) lines (said ∷ [])) ∙ length-append (filter (λ (s : Said). is s.says) lines) (filter (λ (s : Said). is s.says) (said ∷ []))

counts_on : (tally : Tally) (lines : List Said) (at : ℕ) (line : Line) → AreCountsOf lines tally.added tally.deleted tally.imported
    → AreCountsOf (lines ++ record { line = at; says = Ok line } ∷ []) (with_count tally line).added (with_count tally line).deleted (with_count tally line).imported
counts_on tally lines at (Add a) c =
    let said : Said = record { line = at; says = Ok (Add a) } in
    record {
      added_is = ap (λ n. n + 1) c.added_is ∙ sym (how_many_more says_addition lines said);
      deleted_is = c.deleted_is ∙ sym (add-zero (how_many says_deletion lines)) ∙ sym (how_many_more says_deletion lines said);
      imported_is = c.imported_is ∙ sym (add-zero (how_many says_import lines)) ∙ sym (how_many_more says_import lines said);
    }
counts_on tally lines at (Delete numbers) c =
    let said : Said = record { line = at; says = Ok (Delete numbers) } in
    record {
      added_is = c.added_is ∙ sym (add-zero (how_many says_addition lines)) ∙ sym (how_many_more says_addition lines said);
      deleted_is = ap (λ n. n + 1) c.deleted_is ∙ sym (how_many_more says_deletion lines said);
      imported_is = c.imported_is ∙ sym (add-zero (how_many says_import lines)) ∙ sym (how_many_more says_import lines said);
    }
counts_on tally lines at (Import number clause) c =
    let said : Said = record { line = at; says = Ok (Import number clause) } in
    record {
      added_is = c.added_is ∙ sym (add-zero (how_many says_addition lines)) ∙ sym (how_many_more says_addition lines said);
      deleted_is = c.deleted_is ∙ sym (add-zero (how_many says_deletion lines)) ∙ sym (how_many_more says_deletion lines said);
      imported_is = ap (λ n. n + 1) c.imported_is ∙ sym (how_many_more says_import lines said);
    }

counts_lines : (tally : Tally) (front : List Said) (lines : List Numbered) → AreCountsOf front tally.added tally.deleted tally.imported
    → AreCountsOf (front ++ map said_in_block lines) (with_lines tally lines).added (with_lines tally lines).deleted (with_lines tally lines).imported
counts_lines tally front [] c = subst (λ ls. AreCountsOf ls tally.added tally.deleted tally.imported) (sym (append-nil front)) c
counts_lines tally front (line ∷ lines) c =
    let next = with_count tally line.line in
    let rest = counts_lines next (front ++ said_in_block line ∷ []) lines (counts_on tally front line.at line.line c) in
    subst (λ ls. AreCountsOf ls (with_lines next lines).added (with_lines next lines).deleted (with_lines next lines).imported) (append_assoc front (said_in_block line ∷ []) (map said_in_block lines)) rest

-- ---- the run so far

-- The source gave a text, of which so many lines were entered, and the tally has counted them; the reader stands behind them.
pub record EnteredTo (entered : List Said → Type 0) (before after : SourceState) (tally : Tally) (reader : LinesRead) : Type 0 where
  pub text : List ℕ
  pub gave : HasGiven before after text
  pub handed : ℕ
  pub stands : LineReaderStandsAt reader text handed
  pub enters : entered (take handed (all_said MAX_VARIABLE text))
  pub counts : AreCountsOf (take handed (all_said MAX_VARIABLE text)) tally.added tally.deleted tally.imported
  pub whole : AreWhole MAX_VARIABLE text after handed

-- The run so far. Where a fault is told, the next line is missed by it.
pub record EnteredBefore (entered : List Said → Type 0) (before after : SourceState) (tally : Tally) (reader : LinesRead) (fault : Option LineFault) : Type 0 where
  pub so_far : EnteredTo entered before after tally reader
  pub ahead : IfSome fault (λ told. LineMissed MAX_VARIABLE so_far.text so_far.handed told.line after after (AtFault told))

pub entered_begin : (entered : List Said → Type 0) (before : SourceState) (end : End) (reader : LinesRead) → entered [] → LineReaderStandsAt reader [] 0
    → EnteredBefore entered before before (record { added = 0; deleted = 0; imported = 0; end = end; refused = None }) reader None
entered_begin entered before end reader none stands = record {
  so_far = record {
    text = [];
    gave = given_none before;
    handed = 0;
    stands = stands;
    enters = none;
    counts = record { added_is = refl; deleted_is = refl; imported_is = refl };
    whole = inl (omega arith);
  };
  ahead = tt;
}

lines_counted : (entered : List Said → Type 0) (before mid after : SourceState) (tally more : Tally) (reader new : LinesRead) (r : EnteredTo entered before mid tally reader) (lines : List Numbered) (fault : Option LineFault) (b : BlockRead MAX_VARIABLE r.text r.handed new mid after lines fault)
    (count : ℕ) → count ≤ length lines → more ≡ with_lines tally (take count lines) → AreCountsOf (take (r.handed + count) (all_said MAX_VARIABLE (r.text ++ b.piece))) more.added more.deleted more.imported
lines_counted entered before mid after tally more reader new r lines fault b count below counted =
    let said = all_said MAX_VARIABLE (r.text ++ b.piece) in
    let all = with_lines tally (take count lines) in
    subst (λ (t : Tally). AreCountsOf (take (r.handed + count) said) t.added t.deleted t.imported) (sym counted)
    (subst (λ ls. AreCountsOf ls all.added all.deleted all.imported) (sym (taken_lines said r.handed lines count b.next below))
    (counts_lines tally (take r.handed said) (take count lines) (subst (λ ls. AreCountsOf ls tally.added tally.deleted tally.imported) (sym b.same) r.counts)))

module _ {E : Type 0} (entered : E → List Said → E → Type 0) (further : (first mid last : E) (front rest : List Said) → entered first front mid → entered mid rest last → entered first (front ++ rest) last) where
  -- the first lines of a block were entered
  pub lines_entered : (first now next : E) (before mid : SourceState) (tally : Tally) (reader : LinesRead) (r : EnteredTo (λ ls. entered first ls now) before mid tally reader) (after : SourceState) (new : LinesRead) (lines : List Numbered) (fault : Option LineFault) (count : ℕ)
      → (b : BlockRead MAX_VARIABLE r.text r.handed new mid after lines fault) → count ≤ length lines → entered now (map said_in_block (take count lines)) next → entered first (take (r.handed + count) (all_said MAX_VARIABLE (r.text ++ b.piece))) next
  lines_entered first now next before mid tally reader r after new lines fault count b below enters =
      let said = all_said MAX_VARIABLE (r.text ++ b.piece) in
      subst (λ ls. entered first ls next) (sym (taken_lines said r.handed lines count b.next below))
      (further first now next (take r.handed said) (map said_in_block (take count lines)) (subst (λ ls. entered first ls now) (sym b.same) r.enters) enters)

  -- all of a block's lines were entered
  pub block_entered : (first now next : E) (before mid after : SourceState) (tally : Tally) (reader new : LinesRead) (lines : List Numbered) (fault : Option LineFault) (r : EnteredTo (λ ls. entered first ls now) before mid tally reader)
      → BlockRead MAX_VARIABLE r.text r.handed new mid after lines fault → (count : ℕ) → count ≤ length lines → entered now (map said_in_block (take count lines)) next → (more : Tally) → more ≡ with_lines tally (take count lines) → count ≡ length lines
      → EnteredBefore (λ ls. entered first ls next) before after more new fault
  block_entered first now next before mid after tally reader new lines fault r b count below enters more counted all =
      let said = all_said MAX_VARIABLE (r.text ++ b.piece) in
      record {
        so_far = record {
          text = r.text ++ b.piece;
          gave = given_on before mid after r.text b.piece r.gave b.gave;
          handed = r.handed + length lines;
          stands = b.stands;
          enters = subst (λ n. entered first (take (r.handed + n) said) next) all (lines_entered first now next before mid tally reader r after new lines fault count b below enters);
          counts = subst (λ n. AreCountsOf (take (r.handed + n) said) more.added more.deleted more.imported) all (lines_counted (λ ls. entered first ls now) before mid after tally more reader new r lines fault b count below counted);
          whole = b.whole;
        };
        ahead = b.ahead;
      }

-- no line was read, but a piece
pub entered_more : (entered : List Said → Type 0) (before mid after : SourceState) (tally : Tally) (reader new : LinesRead) (r : EnteredTo entered before mid tally reader) → LineRead MAX_VARIABLE r.text r.handed new mid after nexts.More
    → EnteredBefore entered before after tally new None
entered_more entered before mid after tally reader new r read = record {
  so_far = record {
    text = r.text ++ read.piece;
    gave = given_on before mid after r.text read.piece r.gave read.gave;
    handed = r.handed;
    stands = read.stands;
    enters = subst entered (sym read.same) r.enters;
    counts = subst (λ ls. AreCountsOf ls tally.added tally.deleted tally.imported) (sym read.same) r.counts;
    whole = read.whole;
  };
  ahead = tt;
}

-- ---- how it ends

meets_fault : (kind : LineFaultKind) (n : ℕ) (lines : List Said) (given : ℕ) → (is_line_no_memory kind ≡ false → slice_get lines given ≡ Some (record { line = n; says = Err kind })) → MeetsFault n kind (drop given lines)
meets_fault (kinds.NoMemory e) n lines given h = tt
meets_fault kinds.BadNumber n lines given h = first_left lines given ∙ h refl
meets_fault kinds.NumberRange n lines given h = first_left lines given ∙ h refl
meets_fault kinds.Syntax n lines given h = first_left lines given ∙ h refl
meets_fault kinds.Truncated n lines given h = first_left lines given ∙ h refl

-- want of memory while the next line was read
memory_missed : (at : ℕ) (miss : Miss) (P : ℕ → Type 0) → IfOutOfMemory miss P → IfMemoryRefused (missed_at at miss) P
memory_missed at Failed P h = tt
memory_missed at (AtFault fault) P h = by_kind fault.kind fault.line h
  where
    by_kind : (kind : LineFaultKind) (n : ℕ) → (is_line_no_memory kind ≡ true → P n) → IfMemoryRefused (AtLine n (Fault kind)) P
    by_kind (kinds.NoMemory e) n h = h refl
    by_kind kinds.BadNumber n h = tt
    by_kind kinds.NumberRange n h = tt
    by_kind kinds.Syntax n h = tt
    by_kind kinds.Truncated n h = tt

-- as many lines are judged as are known
judged_missed : (handed at : ℕ) (miss : Miss) → with_missed handed miss ≡ judged_count handed (missed_at at miss)
judged_missed handed at Failed = refl
judged_missed handed at (AtFault fault) = by_kind fault.kind fault.line
  where
    by_kind : (kind : LineFaultKind) (n : ℕ) → cond (is_line_no_memory kind) handed (handed + 1) ≡ judged_count handed (AtLine n (Fault kind))
    by_kind (kinds.NoMemory e) n = refl
    by_kind kinds.BadNumber n = refl
    by_kind kinds.NumberRange n = refl
    by_kind kinds.Syntax n = refl
    by_kind kinds.Truncated n = refl

no_end_missed : (at : ℕ) (miss : Miss) → missed_at at miss ≡ Ended → ⊥
no_end_missed at Failed e = cc
no_end_missed at (AtFault fault) e = cc

-- no line is kept that was missed
none_kept : (at : ℕ) (miss : Miss) (rest : List Said) → KeepsRefused (missed_at at miss) None rest
none_kept at Failed rest = refl
none_kept at (AtFault fault) rest = refl

reads_missed : (at : ℕ) (miss : Miss) → failed_reads (missed_at at miss) ≡ reads_failed miss
reads_missed at Failed = refl
reads_missed at (AtFault fault) = refl

module _ {S : Type 0} (seen : S → SourceState) (entered : List Said → Type 0) (refused : Line → Refusal → Type 0) (stopped goes_on : Type 0) where
  pub run_stopped : (stream source : S) (tally : Tally) (reader : LinesRead) → EnteredTo entered (seen stream) (seen source) tally reader → (seen source).failures ≡ 0 → stopped
      → IsStreamRun entered refused stopped goes_on seen stream (report_of (with_end tally Stopped None) source)
  run_stopped stream source tally reader r unfailed told = record {
    text = r.text;
    gave = r.gave;
    count = r.handed;
    enters = r.enters;
    counts = r.counts;
    ends = told;
    kept = refl;
    failed_read = tt;
    no_memory_left = tt;
    ended = λ e. cc;
    failures = unfailed;
    whole = r.whole;
  }

  pub run_ended : (stream source next : S) (tally : Tally) (reader new : LinesRead) (r : EnteredTo entered (seen stream) (seen source) tally reader) → LineRead MAX_VARIABLE r.text r.handed new (seen source) (seen next) nexts.End → (seen next).failures ≡ 0 → goes_on
      → IsStreamRun entered refused stopped goes_on seen stream (report_of (with_end tally Ended None) next)
  run_ended stream source next tally reader new r read unfailed on = record {
    text = r.text ++ read.piece;
    gave = given_on (seen stream) (seen source) (seen next) r.text read.piece r.gave read.gave;
    count = r.handed;
    enters = subst entered (sym read.same) r.enters;
    counts = subst (λ ls. AreCountsOf ls tally.added tally.deleted tally.imported) (sym read.same) r.counts;
    ends = (none_left (all_said MAX_VARIABLE (r.text ++ read.piece)) r.handed read.is, on);
    kept = refl;
    failed_read = tt;
    no_memory_left = tt;
    ended = λ e. read.ended refl;
    failures = unfailed;
    whole = read.whole;
  }

  ends_missed : (at : ℕ) (text : List ℕ) (handed : ℕ) (miss : Miss) → IsMiss MAX_VARIABLE text handed at miss → goes_on → StreamEnds refused stopped goes_on (drop handed (all_said MAX_VARIABLE text)) (missed_at at miss)
  ends_missed at text handed Failed is on = on
  ends_missed at text handed (AtFault fault) is on = (meets_fault fault.kind fault.line (all_said MAX_VARIABLE text) handed is, on)

  fails_missed : (at : ℕ) (text : List ℕ) (handed : ℕ) (miss : Miss) → IsMiss MAX_VARIABLE text handed at miss → IfReadFailed (missed_at at miss) (FailsAt MAX_VARIABLE text handed)
  fails_missed at text handed Failed is = is
  fails_missed at text handed (AtFault fault) is = tt

  pub run_missed : (stream source next : S) (tally : Tally) (reader : LinesRead) (r : EnteredTo entered (seen stream) (seen source) tally reader) (at : ℕ) (miss : Miss) → LineMissed MAX_VARIABLE r.text r.handed at (seen source) (seen next) miss
      → (seen next).failures ≡ reads_failed miss → goes_on → IsStreamRun entered refused stopped goes_on seen stream (report_of (with_end tally (missed_at at miss) None) next)
  run_missed stream source next tally reader r at miss m failures on = record {
    text = r.text ++ m.piece;
    gave = given_on (seen stream) (seen source) (seen next) r.text m.piece r.gave m.gave;
    count = r.handed;
    enters = subst entered (sym m.same) r.enters;
    counts = subst (λ ls. AreCountsOf ls tally.added tally.deleted tally.imported) (sym m.same) r.counts;
    ends = ends_missed at (r.text ++ m.piece) r.handed miss m.is on;
    kept = none_kept at miss (drop r.handed (all_said MAX_VARIABLE (r.text ++ m.piece)));
    failed_read = fails_missed at (r.text ++ m.piece) r.handed miss m.is;
    no_memory_left = memory_missed at miss (IsMemoryRefused MAX_VARIABLE (r.text ++ m.piece) (seen next).ended r.handed) m.no_memory_left;
    ended = λ e. absurd (no_end_missed at miss e);
    failures = failures ∙ sym (reads_missed at miss);
    whole = subst (λ n. AreWhole MAX_VARIABLE (r.text ++ m.piece) (seen next) n) (judged_missed r.handed at miss) m.whole;
  }

  -- the next line was known to be missed by a fault
  pub run_missed_ahead : (stream source : S) (tally : Tally) (reader : LinesRead) (fault : LineFault) (at : ℕ) → EnteredBefore entered (seen stream) (seen source) tally reader (Some fault) → (seen source).failures ≡ 0 → goes_on
      → IsStreamRun entered refused stopped goes_on seen stream (report_of (with_end tally (missed_at at (AtFault fault)) None) source)
  run_missed_ahead stream source tally reader fault at r unfailed on =
      let m = r.ahead in
      let missed : LineMissed MAX_VARIABLE r.so_far.text r.so_far.handed at (seen source) (seen source) (AtFault fault) = record {
        piece = m.piece;
        gave = m.gave;
        same = m.same;
        is = m.is;
        no_memory_left = m.no_memory_left;
        whole = m.whole;
      } in
      run_missed stream source source tally reader r.so_far at (AtFault fault) missed unfailed on

  -- there was no memory for the next line
  pub run_without_memory : (stream source next : S) (tally : Tally) (reader new : LinesRead) (r : EnteredTo entered (seen stream) (seen source) tally reader) (line : Line) (e : NoMemory) (at : ℕ) → at ≡ new.at
      → LineRead MAX_VARIABLE r.text r.handed new (seen source) (seen next) (nexts.Line line) → (seen next).failures ≡ 0 → goes_on
      → IsStreamRun entered refused stopped goes_on seen stream (report_of (with_end tally (AtLine at (Fault (kinds.NoMemory e))) None) next)
  run_without_memory stream source next tally reader new r line e at at_is read unfailed on =
      subst (λ n. IsStreamRun entered refused stopped goes_on seen stream (report_of (with_end tally (AtLine n (Fault (kinds.NoMemory e))) None) next)) (sym at_is)
      (run_missed stream source next tally reader r new.at (AtFault (record { kind = kinds.NoMemory e; line = new.at })) (line_without_memory MAX_VARIABLE r.text r.handed new (seen source) (seen next) line e read) unfailed on)

  -- it ended within a block
  pub run_ended_within : (was : List Said → Type 0) (stream source next : S) (tally more : Tally) (reader new : LinesRead) (r : EnteredTo was (seen stream) (seen source) tally reader) (lines : List Numbered) (fault : Option LineFault) (b : BlockRead MAX_VARIABLE r.text r.handed new (seen source) (seen next) lines fault)
      (count : ℕ) → count ≤ length lines → entered (take (r.handed + count) (all_said MAX_VARIABLE (r.text ++ b.piece))) → more ≡ with_lines tally (take count lines) → (seen next).failures ≡ 0 → (end : End) (line : Option Line) → EndsInBlock refused stopped goes_on (drop count lines) end line
      → IsStreamRun entered refused stopped goes_on seen stream (report_of (with_end more end line) next)
  run_ended_within was stream source next tally more reader new r lines fault b count below enters counted unfailed Ended kept h = absurd h
  run_ended_within was stream source next tally more reader new r lines fault b count below enters counted unfailed (AtLine n (Fault kind)) kept h = absurd h
  run_ended_within was stream source next tally more reader new r lines fault b count below enters counted unfailed (AtLine n ReadFailed) kept h = absurd h
  run_ended_within was stream source next tally more reader new r lines fault b count below enters counted unfailed Stopped kept h = record {
    text = r.text ++ b.piece;
    gave = given_on (seen stream) (seen source) (seen next) r.text b.piece r.gave b.gave;
    count = r.handed + count;
    enters = enters;
    counts = lines_counted was (seen stream) (seen source) (seen next) tally more reader new r lines fault b count below counted;
    ends = h.0;
    kept = h.1;
    failed_read = tt;
    no_memory_left = tt;
    ended = λ e. cc;
    failures = unfailed;
    whole = whole_before MAX_VARIABLE (r.text ++ b.piece) (seen next) (r.handed + count) (r.handed + length lines) (omega (arith, below)) b.whole;
  }
  run_ended_within was stream source next tally more reader new r lines fault b count below enters counted unfailed (AtLine n (Refused refusal)) kept h =
      let said = all_said MAX_VARIABLE (r.text ++ b.piece) in
      let line = h.0 in
      let is : slice_get lines count ≡ Some line = sym (first_left lines count) ∙ h.1 in
      let place = at_below lines count line is in
      let first : slice_get (drop (r.handed + count) said) 0 ≡ Some (record { line = n; says = Ok line.line }) =
      first_left said (r.handed + count) ∙ next_at said r.handed lines count line b.next is ∙ ap (λ k. Some (record { line = k; says = Ok line.line })) (sym h.2) in
      record {
        text = r.text ++ b.piece;
        gave = given_on (seen stream) (seen source) (seen next) r.text b.piece r.gave b.gave;
        count = r.handed + count;
        enters = enters;
        counts = lines_counted was (seen stream) (seen source) (seen next) tally more reader new r lines fault b count below counted;
        ends = (
          record {
            line = line.line;
            first = first;
            is = h.3;
          },
          h.4,
        );
        kept = (line.line, h.5, first);
        failed_read = tt;
        no_memory_left = tt;
        ended = λ e. cc;
        failures = unfailed;
        whole = whole_before MAX_VARIABLE (r.text ++ b.piece) (seen next) ((r.handed + count) + 1) (r.handed + length lines) (omega (arith, place)) b.whole;
      }
