-- The lines of a block, which are read together.
use Rattle.std.proofs.Common.{◌≡◌, ℕ, suc, ◌+◌, ◌≤◌, true, false, List, [], ◌∷◌, ◌++◌, length, take, None, Some, Ok, Err, sym, ap, subst, inl, inr, arith, add-zero, length-append}
use Rattle.std.specs.Prelude.{slice_get}
use Rattle.std.proofs.lemmas.List.{append-nil}
use Rattle.std.proofs.lemmas.Bool.{false≢true}
use Rattle.lj_text.specs.declared.line.Line.{Line}
use Rattle.lj_clause.specs.declared.memory.NoMemory.{NoMemory}
use Rattle.lj_text.specs.declared.lines.fault.LineFault.{LineFault}
use Rattle.lj_text.specs.declared.lines.fault.LineFaultKind.TheVariants as kinds
use Rattle.lj_text.specs.Lines.{Said, whole_said, all_said}
use Rattle.lj_text.specs.LinesRead.{LinesRead, LineReaderStandsAt, IsSaidAt, IsSaidRight, line_answer, line_number_of, last_number, is_line_no_memory}
use Rattle.lj_text.specs.Streams.{SourceState}
use Rattle.lj_run.specs.declared.reading.Miss.TheVariants.{AtFault}
use Rattle.lj_run.specs.declared.reading.Next.TheVariants as nexts
use Rattle.lj_share.specs.declared.numbered.Numbered.{Numbered}
use Rattle.lj_run.specs.inner.Block.{said_in_block, AreNext, BlockRead}
use Rattle.lj_run.specs.inner.Reading.{LineRead, LineMissed}
use Rattle.lj_run.specs.Reading.{IsRightLine, AreWhole}
use Rattle.lj_run.proofs.GivenLemmas.{given_none}
use Rattle.lj_run.proofs.ReadingLemmas.{FedSince, line_of_text, fault_of_text, right_of_text, whole_answered, whole_said_at, line_faulty}

-- fewer lines are whole, too
pub whole_before : (max : ℕ) (text : List ℕ) (source : SourceState) (few many : ℕ) → few ≤ many → AreWhole max text source many → AreWhole max text source few
whole_before max text source few many below (inl whole) = inl (omega (arith, below, whole))
whole_before max text source few many below (inr ended) = inr ended

-- ---- how a block is read

-- one line more
next_more : (said : List Said) (handed : ℕ) (lines : List Numbered) (line : Numbered) → AreNext said handed lines → slice_get said (handed + length lines) ≡ Some (said_in_block line) → AreNext said handed (lines ++ line ∷ [])
next_more said handed [] line are is = (subst (λ n. slice_get said n ≡ Some (said_in_block line)) (add-zero handed) is, tt)
next_more said handed (l ∷ lines) line are is =
    let place : handed + suc (length lines) ≡ (handed + 1) + length lines = omega arith in
    (are.0, next_more said (handed + 1) lines line are.1 (subst (λ n. slice_get said n ≡ Some (said_in_block line)) place is))

longer : (handed : ℕ) (lines : List Numbered) (line : Numbered) → (handed + length lines) + 1 ≡ handed + length (lines ++ line ∷ [])
longer handed lines line = let more = length-append lines (line ∷ []) in omega (arith, more)

-- a line more was read into it, which the reader had whole
pub block_more : (max : ℕ) (fed : List ℕ) (handed : ℕ) (old new : LinesRead) (before after : SourceState) (lines : List Numbered) (line : Line) → old.max ≡ max
    → (b : BlockRead max fed handed old before after lines None)
    → Ok (Some line) ≡ line_answer (slice_get (whole_said old.max (fed ++ b.piece)) (handed + length lines))
    → new.at ≡ line_number_of (slice_get (whole_said old.max (fed ++ b.piece)) (handed + length lines)) (last_number (fed ++ b.piece))
    → LineReaderStandsAt new (fed ++ b.piece) ((handed + length lines) + 1)
    → BlockRead max fed handed new before after (lines ++ record { at = new.at; line = line } ∷ []) None
block_more max fed handed old new before after lines line max_is b answer at stands =
    let numbered : Numbered = record { at = new.at; line = line } in
    let text = fed ++ b.piece in
    let here = subst (λ m. slice_get (all_said m text) (handed + length lines) ≡ Some (said_in_block numbered)) max_is (line_of_text old.max text (handed + length lines) new.at (last_number text) line answer at) in
    let whole = subst (λ m. AreWhole m text after ((handed + length lines) + 1)) max_is (whole_answered old.max text (handed + length lines) line after answer) in
    record {
      piece = b.piece;
      gave = b.gave;
      same = b.same;
      next = next_more (all_said max text) handed lines numbered b.next here;
      stands = subst (λ n. LineReaderStandsAt new text n) (longer handed lines numbered) stands;
      whole = subst (λ n. AreWhole max text after n) (longer handed lines numbered) whole;
      ahead = tt;
    }

-- the line behind it is at fault, or memory was refused to it
pub block_faulty : (max : ℕ) (fed : List ℕ) (handed : ℕ) (old new : LinesRead) (before after : SourceState) (lines : List Numbered) (fault : LineFault) → old.max ≡ max
    → (b : BlockRead max fed handed old before after lines None)
    → (is_line_no_memory fault.kind ≡ false → Err fault ≡ line_answer (slice_get (whole_said old.max (fed ++ b.piece)) (handed + length lines)))
    → IsSaidAt (slice_get (whole_said old.max (fed ++ b.piece)) (handed + length lines)) fault.line
    → (is_line_no_memory fault.kind ≡ true → IsSaidRight (slice_get (whole_said old.max (fed ++ b.piece)) (handed + length lines)))
    → LineReaderStandsAt new (fed ++ b.piece) ((handed + length lines) + 0)
    → BlockRead max fed handed new before after lines (Some fault)
block_faulty max fed handed old new before after lines fault max_is b answer place right stands =
    let text = fed ++ b.piece in
    let given = handed + length lines in
    let same_text : text ≡ text ++ [] = sym (append-nil text) in
    let f : FedSince old.max text given old after after = record {
      piece = [];
      gave = given_none after;
      same = ap (λ t. take given (all_said old.max t)) (sym same_text);
      stands = subst (λ t. LineReaderStandsAt old t given) same_text b.stands;
    } in
    record {
      piece = b.piece;
      gave = b.gave;
      same = b.same;
      next = b.next;
      stands = subst (λ n. LineReaderStandsAt new text n) (add-zero given) stands;
      whole = b.whole;
      ahead = subst (λ m. LineMissed m text given fault.line after after (AtFault fault)) max_is (line_faulty old.max text given fault.line old after after fault f
          (λ memory. subst (λ t. slice_get (all_said old.max t) given ≡ Some (record { line = fault.line; says = Err fault.kind })) same_text (fault_of_text old.max text given fault (answer memory)))
          (λ memory. subst (λ t. IsRightLine old.max t given fault.line) same_text (right_of_text old.max text given fault.line place (right memory)))
          (subst (λ t. AreWhole old.max t after (given + 1)) same_text (whole_said_at old.max text given fault.line after place)));
    }

-- there was no memory for a line that was read
pub line_without_memory : (max : ℕ) (fed : List ℕ) (handed : ℕ) (reader : LinesRead) (before after : SourceState) (line : Line) (e : NoMemory) → LineRead max fed handed reader before after (nexts.Line line)
    → LineMissed max fed handed reader.at before after (AtFault (record { kind = kinds.NoMemory e; line = reader.at }))
line_without_memory max fed handed reader before after line e read = record {
  piece = read.piece;
  gave = read.gave;
  same = read.same;
  is = λ memory. absurd (false≢true (sym memory));
  no_memory_left = λ memory. inl (record { line = line; next = read.is });
  whole = whole_before max (fed ++ read.piece) after handed (handed + 1) (omega arith) read.whole;
}
