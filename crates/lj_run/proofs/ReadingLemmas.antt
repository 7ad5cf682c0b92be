-- The steps of reading a stream's lines.
use Rattle.std.proofs.Common.{◌≡◌, ℕ, zero, suc, ◌+◌, ◌≤◌, Bool, true, false, cond, List, [], ◌∷◌, ◌++◌, length, take, Option, None, Some, Result, Ok, Err, refl, sym, ap, ◌∙◌, subst, append_assoc, add-zero, inl, inr, arith, length-append}
use Rattle.std.specs.Prelude.{slice_get, MatchBool, IfErr, IsErrAnd, IsOk}
use Rattle.std.proofs.lemmas.List.{append-nil}
use Rattle.std.proofs.lemmas.Bool.{false≢true}
use Rattle.lj_text.specs.declared.line.Line.{Line}
use Rattle.lj_text.specs.declared.lines.fault.LineFault.{LineFault}
use Rattle.lj_text.specs.declared.lines.fault.LineFaultKind.{LineFaultKind}
use Rattle.lj_text.specs.Lines.{Said, said_from, whole_said_from, whole_said, all_said_from, all_said}
use Rattle.lj_text.specs.LinesRead.{LinesRead, LineReaderStandsAt, StandsWithin, StandsBehind, IsSaidAt, IsSaidRight, line_answer, answer_of_line, line_number_of, last_number, text_of_lines, is_line_no_memory}
use Rattle.lj_text.specs.Streams.{SourceState, HasGiven, HasEnded}
use Rattle.lj_text.proofs.Fronts.{said_in_front}
use Rattle.lj_text.proofs.StandLemmas.{whole-joined, all-joined, get-behind}
use Rattle.lj_run.specs.declared.reading.Miss.{Miss}
use Rattle.lj_run.specs.declared.reading.Miss.TheVariants.{Failed, AtFault}
use Rattle.lj_run.specs.declared.reading.Next.{Next}
use Rattle.lj_run.specs.declared.reading.Next.TheVariants as nexts
use Rattle.lj_run.specs.inner.Reading.{PieceRead, IsNext, LineRead, IsMiss, IfOutOfMemory, LineMissed, IsPieceOf, PieceMissed, with_handed, with_missed}
use Rattle.lj_run.specs.Reading.{IsRightLine, IsMemoryRefused, FailsAt, AreWhole}
use Rattle.lj_run.proofs.GivenLemmas.{given_none, given_on}

told_line : (n : ℕ) (r : Result Line LineFaultKind) (line : Line) → Ok (Some line) ≡ answer_of_line n r → r ≡ Ok line
told_line n (Ok other) line e = cc
told_line n (Err kind) line e = cc

told_none : (n : ℕ) (r : Result Line LineFaultKind) → Ok None ≡ answer_of_line n r → ⊥
told_none n (Ok other) e = cc
told_none n (Err kind) e = cc

same_fault : (f g : LineFault) → ◌≡◌ {A = Result (Option Line) LineFault} (Err f) (Err g) → f ≡ g
same_fault f g e = cc

told_fault : (n : ℕ) (r : Result Line LineFaultKind) (fault : LineFault) → Err fault ≡ answer_of_line n r → (n ≡ fault.line) × (r ≡ Err fault.kind)
told_fault n (Ok other) fault e = cc
told_fault n (Err kind) fault e =
    let same = same_fault fault (record { kind = kind; line = n }) e in
    (sym (ap (λ (f : LineFault). f.line) same), ap Err (sym (ap (λ (f : LineFault). f.kind) same)))

-- an answer with a line: the line that stands there
pub answered : (o : Option Said) (line : Line) (at last : ℕ) → Ok (Some line) ≡ line_answer o → at ≡ line_number_of o last → o ≡ Some (record { line = at; says = Ok line })
answered None line at last e n = cc
answered (Some said) line at last e n = λ i. Some (record { line = sym n i; says = told_line said.line said.says line e i })

-- an answer without a line: there is none
pub none_answered : (o : Option Said) → Ok None ≡ line_answer o → o ≡ None
none_answered None e = refl
none_answered (Some said) e = absurd (told_none said.line said.says e)

-- an answer with a fault: that of the line that stands there
pub faulted : (o : Option Said) (fault : LineFault) → Err fault ≡ line_answer o → o ≡ Some (record { line = fault.line; says = Err fault.kind })
faulted None fault e = cc
faulted (Some said) fault e = let parts = told_fault said.line said.says fault e in λ i. Some (record { line = parts.0 i; says = parts.1 i })

-- want of memory at the line that stands there, which is right
right_line : (o : Option Said) (n : ℕ) → IsSaidAt o n → IsSaidRight o → (line : Line) × (o ≡ Some (record { line = n; says = Ok line }))
right_line None n at right = absurd at
right_line (Some said) n at right = let r = right_says said.says right in (r.0, λ i. Some (record { line = at i; says = r.1 i }))
  where
    right_says : (r : Result Line LineFaultKind) → IsOk r → (line : Line) × (r ≡ Ok line)
    right_says (Ok line) ok = (line, refl)
    right_says (Err kind) ok = absurd (false≢true ok)

-- what the answers of a reader mean for what it was fed, with whole lines looked at
pub line_of_text : (max : ℕ) (text : List ℕ) (handed at last : ℕ) (line : Line)
    → Ok (Some line) ≡ line_answer (slice_get (whole_said max text) handed) → at ≡ line_number_of (slice_get (whole_said max text) handed) last → slice_get (all_said max text) handed ≡ Some (record { line = at; says = Ok line })
line_of_text max text handed at last line e n =
    subst (λ t. slice_get (all_said max t) handed ≡ Some (record { line = at; says = Ok line })) (append-nil text)
    (said_in_front max text [] handed (record { line = at; says = Ok line }) (answered (slice_get (whole_said max text) handed) line at last e n))

pub fault_of_text : (max : ℕ) (text : List ℕ) (handed : ℕ) (fault : LineFault)
    → Err fault ≡ line_answer (slice_get (whole_said max text) handed) → slice_get (all_said max text) handed ≡ Some (record { line = fault.line; says = Err fault.kind })
fault_of_text max text handed fault e =
    subst (λ t. slice_get (all_said max t) handed ≡ Some (record { line = fault.line; says = Err fault.kind })) (append-nil text)
    (said_in_front max text [] handed (record { line = fault.line; says = Err fault.kind }) (faulted (slice_get (whole_said max text) handed) fault e))

pub right_of_text : (max : ℕ) (text : List ℕ) (handed n : ℕ) → IsSaidAt (slice_get (whole_said max text) handed) n → IsSaidRight (slice_get (whole_said max text) handed)
    → IsRightLine max text handed n
right_of_text max text handed n at right =
    let r = right_line (slice_get (whole_said max text) handed) n at right in
    let said : Said = record { line = n; says = Ok r.0 } in
    record { line = r.0; next = subst (λ t. slice_get (all_said max t) handed ≡ Some said) (append-nil text) (said_in_front max text [] handed said r.1) }

-- and with all of them
pub right_at_end : (max : ℕ) (text : List ℕ) (handed n : ℕ) → IsSaidAt (slice_get (all_said max text) handed) n → IsSaidRight (slice_get (all_said max text) handed)
    → IsRightLine max text handed n
right_at_end max text handed n at right = let r = right_line (slice_get (all_said max text) handed) n at right in record { line = r.0; next = r.1 }

same_end : {X : Type 0} (xs ys : List X) → slice_get ys 0 ≡ None → length xs ≡ length (xs ++ ys)
same_end xs [] none = ap length (sym (append-nil xs))
same_end xs (y ∷ ys) none = cc

within : (reader : LinesRead) (text : List ℕ) (given : ℕ) → reader.finished ≡ false → LineReaderStandsAt reader text given → StandsWithin reader text given
within reader text given goes stands = subst (λ b. MatchBool b (StandsBehind reader text given) (StandsWithin reader text given)) goes stands

-- where no whole line says more, all that the whole lines say were handed out
all_handed : (reader : LinesRead) (text : List ℕ) (given : ℕ) → StandsWithin reader text given → slice_get (whole_said reader.max text) given ≡ None → given ≡ length (whole_said reader.max text)
all_handed reader text given s none =
    let done = said_from reader.max 0 s.lines in
    let later = whole_said_from reader.max (0 + length s.lines) reader.ahead in
    let is : whole_said reader.max text ≡ done ++ later = ap (whole_said reader.max) s.text_is ∙ whole-joined reader.max 0 s.lines reader.ahead s.whole in
    let first : slice_get later 0 ≡ None = sym (get-behind done later) ∙ ap (λ n. slice_get (done ++ later) n) (sym s.given_is) ∙ ap (λ xs. slice_get xs given) (sym is) ∙ none in
    s.given_is ∙ same_end done later first ∙ ap length (sym is)

-- the lines handed out stay the first ones, whatever follows
take_front : {X : Type 0} (xs ys : List X) → take (length xs) (xs ++ ys) ≡ xs
take_front [] ys = refl
take_front (x ∷ xs) ys = ap (λ zs. x ∷ zs) (take_front xs ys)

handed_first : (reader : LinesRead) (text more : List ℕ) (handed : ℕ) (s : StandsWithin reader text handed) → take handed (all_said reader.max (text ++ more)) ≡ said_from reader.max 0 s.lines
handed_first reader text more handed s =
    let done = said_from reader.max 0 s.lines in
    let later = all_said_from reader.max (0 + length s.lines) (reader.ahead ++ more) in
    let is : all_said reader.max (text ++ more) ≡ done ++ later =
    ap (λ t. all_said reader.max (t ++ more)) s.text_is ∙ ap (all_said reader.max) (append_assoc (text_of_lines s.lines) reader.ahead more) ∙ all-joined reader.max 0 s.lines (reader.ahead ++ more) s.whole in
    ap (take handed) is ∙ ap (λ n. take n (done ++ later)) s.given_is ∙ take_front done later

pub same_handed : (reader : LinesRead) (text more : List ℕ) (handed : ℕ) → reader.finished ≡ false → LineReaderStandsAt reader text handed
    → take handed (all_said reader.max (text ++ more)) ≡ take handed (all_said reader.max text)
same_handed reader text more handed goes stands =
    let s = within reader text handed goes stands in
    handed_first reader text more handed s ∙ sym (handed_first reader text [] handed s) ∙ ap (λ t. take handed (all_said reader.max t)) (append-nil text)

-- so many whole lines were handed out, whatever follows
handed_whole : (reader : LinesRead) (text more : List ℕ) (handed : ℕ) → reader.finished ≡ false → LineReaderStandsAt reader text handed → handed ≤ length (whole_said reader.max (text ++ more))
handed_whole reader text more handed goes stands =
    let s = within reader text handed goes stands in
    let later = whole_said_from reader.max (0 + length s.lines) (reader.ahead ++ more) in
    let is : whole_said reader.max (text ++ more) ≡ said_from reader.max 0 s.lines ++ later =
    ap (λ t. whole_said reader.max (t ++ more)) s.text_is ∙ ap (whole_said reader.max) (append_assoc (text_of_lines s.lines) reader.ahead more) ∙ whole-joined reader.max 0 s.lines (reader.ahead ++ more) s.whole in
    let long = ap length is ∙ length-append (said_from reader.max 0 s.lines) later in
    let given = s.given_is in
    omega (arith, long, given)

-- a line that whole lines say is one of them
said_below : (xs : List Said) (n line : ℕ) → IsSaidAt (slice_get xs n) line → n + 1 ≤ length xs
said_below [] zero line at = absurd at
said_below [] (suc n) line at = absurd at
said_below (x ∷ xs) zero line at = omega arith
said_below (x ∷ xs) (suc n) line at = let below = said_below xs n line at in omega (arith, below)

pub whole_said_at : (max : ℕ) (text : List ℕ) (handed line : ℕ) (source : SourceState) → IsSaidAt (slice_get (whole_said max text) handed) line → AreWhole max text source (handed + 1)
whole_said_at max text handed line source at = inl (said_below (whole_said max text) handed line at)

said_at : (o : Option Said) (line : Line) → Ok (Some line) ≡ line_answer o → (n : ℕ) × IsSaidAt o n
said_at None line e = cc
said_at (Some said) line e = (said.line, refl)

pub whole_answered : (max : ℕ) (text : List ℕ) (handed : ℕ) (line : Line) (source : SourceState) → Ok (Some line) ≡ line_answer (slice_get (whole_said max text) handed) → AreWhole max text source (handed + 1)
whole_answered max text handed line source e = let at = said_at (slice_get (whole_said max text) handed) line e in whole_said_at max text handed at.0 source at.1

-- a read failed, where no whole line of what was fed says more
pub read_failed : (text : List ℕ) (handed at : ℕ) (reader : LinesRead) → reader.finished ≡ false → LineReaderStandsAt reader text handed
    → Ok None ≡ line_answer (slice_get (whole_said reader.max text) handed) → at ≡ line_number_of (slice_get (whole_said reader.max text) handed) (last_number text) → FailsAt reader.max text handed at
read_failed text handed at reader goes stands answer place =
    let none = none_answered (slice_get (whole_said reader.max text) handed) answer in
    record {
      at_is = place ∙ ap (λ o. line_number_of o (last_number text)) none;
      handed_is = all_handed reader text handed (within reader text handed goes stands) none;
    }

-- a miss that is passed on
pub passed_on : {A : Type 0} (r : Result A Miss) (miss : Miss) (P : Miss → Type 0) → IsErrAnd r (λ e. e ≡ miss) → P miss → IfErr r P
passed_on (Ok x) miss P is h = tt
passed_on (Err e) miss P is h = subst P (sym is) h

-- ---- one call of the next line

-- What was fed since, with the lines handed out before the same.
pub record FedSince (max : ℕ) (fed : List ℕ) (handed : ℕ) (reader : LinesRead) (before after : SourceState) : Type 0 where
  pub piece : List ℕ
  pub gave : HasGiven before after piece
  pub same : take handed (all_said max (fed ++ piece)) ≡ take handed (all_said max fed)
  pub stands : LineReaderStandsAt reader (fed ++ piece) handed

pub fed_none : (max : ℕ) (fed : List ℕ) (handed : ℕ) (reader : LinesRead) (s : SourceState) → LineReaderStandsAt reader fed handed → FedSince max fed handed reader s s
fed_none max fed handed reader s stands = record {
  piece = [];
  gave = given_none s;
  same = ap (λ t. take handed (all_said max t)) (append-nil fed);
  stands = subst (λ t. LineReaderStandsAt reader t handed) (sym (append-nil fed)) stands;
}

-- what a call for the next line says of what was fed since
pub line_read : (max : ℕ) (fed : List ℕ) (handed : ℕ) (old new : LinesRead) (start after : SourceState) (next : Next) (f : FedSince max fed handed old start after)
    → IsNext (all_said max (fed ++ f.piece)) handed new.at next → LineReaderStandsAt new (fed ++ f.piece) (with_handed handed next) → (next ≡ nexts.End → HasEnded after) → AreWhole max (fed ++ f.piece) after (with_handed handed next)
    → LineRead max fed handed new start after next
line_read max fed handed old new start after next f is stands ended whole = record {
  piece = f.piece;
  gave = f.gave;
  same = f.same;
  is = is;
  stands = stands;
  ended = ended;
  whole = whole;
}

-- a reader passed silent lines, and a piece was fed
pub more_read : (max : ℕ) (fed : List ℕ) (handed : ℕ) (mid new : LinesRead) (before after : SourceState) → mid.max ≡ max → mid.finished ≡ false → LineReaderStandsAt mid fed (handed + 0)
    → ((text : List ℕ) (n : ℕ) → LineReaderStandsAt mid text n → PieceRead text n new before after) → LineRead max fed handed new before after nexts.More
more_read max fed handed mid new before after max_is goes passed onward =
    let here = subst (λ n. LineReaderStandsAt mid fed n) (add-zero handed) passed in
    let p = onward fed handed here in
    record {
      piece = p.piece;
      gave = p.gave;
      same = subst (λ m. take handed (all_said m (fed ++ p.piece)) ≡ take handed (all_said m fed)) max_is (same_handed mid fed p.piece handed goes here);
      is = tt;
      stands = p.stands;
      ended = λ e. cc;
      whole = inl (subst (λ m. handed ≤ length (whole_said m (fed ++ p.piece))) max_is (handed_whole mid fed p.piece handed goes here));
    }

-- its fault, or the want of memory in a line that is right
pub line_faulty : (max : ℕ) (fed : List ℕ) (handed at : ℕ) (old : LinesRead) (start after : SourceState) (fault : LineFault) (f : FedSince max fed handed old start after)
    → (is_line_no_memory fault.kind ≡ false → slice_get (all_said max (fed ++ f.piece)) handed ≡ Some (record { line = fault.line; says = Err fault.kind }))
    → (is_line_no_memory fault.kind ≡ true → IsRightLine max (fed ++ f.piece) handed fault.line) → AreWhole max (fed ++ f.piece) after (handed + 1) → LineMissed max fed handed at start after (AtFault fault)
line_faulty max fed handed at old start after fault f is right whole =
    record { piece = f.piece; gave = f.gave; same = f.same; is = is; no_memory_left = λ memory. inl (right memory); whole = known (is_line_no_memory fault.kind) }
  where
    known : (b : Bool) → AreWhole max (fed ++ f.piece) after (cond b handed (handed + 1))
    known true = elim whole [
      | inl below ↦ inl (omega (arith, below))
      | inr ended ↦ inr ended
    ]
    known false = whole

-- the miss of a piece is one of the line
pub piece_missed : (max : ℕ) (fed : List ℕ) (handed : ℕ) (old mid new : LinesRead) (start before after : SourceState) (miss : Miss) → old.max ≡ max → old.finished ≡ false → mid.max ≡ max → mid.finished ≡ false
    → (f : FedSince max fed handed old start before) → Ok None ≡ line_answer (slice_get (whole_said old.max (fed ++ f.piece)) handed)
    → mid.at ≡ line_number_of (slice_get (whole_said old.max (fed ++ f.piece)) handed) (last_number (fed ++ f.piece)) → mid.line ≡ mid.at
    → LineReaderStandsAt mid (fed ++ f.piece) (handed + 0) → PieceMissed mid new before after miss → LineMissed max fed handed new.at start after miss
piece_missed max fed handed old mid new start before after miss max_is goes mid_max mid_goes f answer place line_at passed p =
    let here = subst (λ n. LineReaderStandsAt mid (fed ++ f.piece) n) (add-zero handed) passed in
    let on = subst (λ m. take handed (all_said m ((fed ++ f.piece) ++ p.piece)) ≡ take handed (all_said m (fed ++ f.piece))) mid_max (same_handed mid (fed ++ f.piece) p.piece handed mid_goes here) in
    record {
      piece = f.piece ++ p.piece;
      gave = given_on start before after f.piece p.piece f.gave p.gave;
      same = ap (λ t. take handed (all_said max t)) (sym (append_assoc fed f.piece p.piece)) ∙ on ∙ f.same;
      is = missed miss p.is;
      no_memory_left = out_of_memory miss p.is;
      whole = known miss p.is;
    }
  where
    whole : AreWhole max (fed ++ (f.piece ++ p.piece)) after handed
    whole =
        let here = subst (λ n. LineReaderStandsAt mid (fed ++ f.piece) n) (add-zero handed) passed in
        let below = subst (λ m. handed ≤ length (whole_said m ((fed ++ f.piece) ++ p.piece))) mid_max (handed_whole mid (fed ++ f.piece) p.piece handed mid_goes here) in
        inl (subst (λ t. handed ≤ length (whole_said max t)) (append_assoc fed f.piece p.piece) below)

    known : (m : Miss) → IsPieceOf mid.line after.ended m p.piece → AreWhole max (fed ++ (f.piece ++ p.piece)) after (with_missed handed m)
    known Failed is = whole
    known (AtFault fault) is = subst (λ b. AreWhole max (fed ++ (f.piece ++ p.piece)) after (cond b handed (handed + 1))) (sym is.0) whole

    stops : FailsAt max (fed ++ f.piece) handed mid.at
    stops = subst (λ m. FailsAt m (fed ++ f.piece) handed mid.at) max_is (read_failed (fed ++ f.piece) handed mid.at old goes f.stands answer place)

    failed : (piece : List ℕ) → piece ≡ [] → FailsAt max (fed ++ (f.piece ++ piece)) handed new.at
    failed piece none =
        let same_text : fed ++ f.piece ≡ fed ++ (f.piece ++ piece) = ap (λ xs. fed ++ xs) (sym (append-nil f.piece) ∙ ap (λ xs. f.piece ++ xs) (sym none)) in
        subst (λ t. FailsAt max t handed new.at) same_text (subst (λ n. FailsAt max (fed ++ f.piece) handed n) (ap (λ (r : LinesRead). r.at) (sym p.same)) stops)

    missed : (m : Miss) → IsPieceOf mid.line after.ended m p.piece → IsMiss max (fed ++ (f.piece ++ p.piece)) handed new.at m
    missed Failed is = failed p.piece is
    missed (AtFault fault) is = λ memory. absurd (false≢true (sym memory ∙ is.0))

    out_of_memory : (m : Miss) → IsPieceOf mid.line after.ended m p.piece → IfOutOfMemory m (IsMemoryRefused max (fed ++ (f.piece ++ p.piece)) after.ended handed)
    out_of_memory Failed is = tt
    out_of_memory (AtFault fault) is = λ memory. inr (record {
      front = fed ++ f.piece;
      piece = p.piece;
      text_is = sym (append_assoc fed f.piece p.piece);
      stops = subst (λ n. FailsAt max (fed ++ f.piece) handed n) (sym (is.1 ∙ line_at)) stops;
      goes_on = is.2;
    })
