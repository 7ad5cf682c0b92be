-- The lines of a piece, one after the other.
use Rattle.std.proofs.Common.{◌≡◌, ℕ, ◌+◌, ◌-◌, ◌^◌, ◌<◌, min, true, false, List, [], ◌∷◌, ◌++◌, length, length-append, Result, Ok, Err, refl, sym, ap, ◌∙◌, subst, append_assoc, arith}
use Rattle.std.proofs.lemmas.List.{append-nil}
use Rattle.std.proofs.lemmas.List.Splits.{slice_split_at, slice_split_none}
use Rattle.std.specs.Prelude.{IfErr, IfSome, MatchResult}
use Rattle.std.specs.List.{AllByRecursion}
use Rattle.std.proofs.lemmas.List.Elements.{All-append}
use Rattle.lj_clause.specs.ClauseMap.{FormulaValue}
use Rattle.lj_text.specs.declared.cnf.fault.CnfFault.{CnfFault}
use Rattle.lj_text.specs.declared.cnf.fault.CnfFaultKind.{CnfFaultKind}
use Rattle.lj_text.specs.declared.cnf.fault.CnfFaultKind.TheVariants.{NoHeader, BadHeader, BadNumber, VariableRange, ClauseCount, Truncated, NoMemory}
use Rattle.lj_text.specs.declared.cnf.state.State.{State}
use Rattle.lj_text.specs.declared.cnf.state.State.TheVariants.{Header, Clauses, Ended, Faulty}
use Rattle.lj_text.specs.Bytes.{is_line_end, line_number, lines_of, tokens_of}
use Rattle.lj_text.specs.Lines.{all_but_last}
use Rattle.lj_text.specs.LinesRead.{HasNoLineEnd, text_of_lines, last_number}
use Rattle.lj_text.proofs.StandLemmas.{all_more, joined_more, next_number, both, joined_both, cut-joined, cut-none}
use Rattle.lj_text.specs.inner.CnfReading.{IsCnfTold}
use Rattle.lj_text.specs.CnfRead.{is_cnf_no_memory, IsAnswer, HasFaultAlready, BeginsByNumber, NeedsMemory, EndsByNumber}
use Rattle.lj_text.specs.inner.CnfResuming.{formula_from_state, Reads, asks_memory, kept_fault}
use Rattle.lj_clause.specs.Memory.{no_memory}
use Rattle.lj_text.specs.inner.CnfBuffered.{CnfStandsAt, Leads, NeedsMemoryFrom, Taken}
use Rattle.lj_text.specs.Cnf.{read_cnf, HasFault}
use Rattle.std.specs.Prelude.{Option, Some, None, ◌⊎◌}
use Rattle.std.proofs.Common.{inl, inr}

pub no_line_end-both : (xs ys : List ℕ) → HasNoLineEnd xs → HasNoLineEnd ys → HasNoLineEnd (xs ++ ys)
no_line_end-both xs ys h k = All-append (λ b. is_line_end b ≡ false) xs ys h k

-- what was read of a piece so far, and what is left of it
pub record Going (max first : ℕ) (old : State) (buffer piece : List ℕ) (state : State) (number : ℕ) (left rest : List ℕ) : Type 0 where
  pub lines : List (List ℕ)
  pub whole : AllByRecursion HasNoLineEnd lines
  pub text_is : buffer ++ piece ≡ text_of_lines lines ++ (left ++ rest)
  pub line_is : (n : ℕ) → first ≡ line_number n → number ≡ line_number (n + length lines)
  pub reads : (n : ℕ) → first ≡ line_number n → Leads max n old lines state
  pub held_is : (left ≡ []) ⊎ ((lines ≡ []) × (left ≡ buffer))

pub going-none : (max first : ℕ) (old : State) (buffer piece : List ℕ) → Going max first old buffer piece old first buffer piece
going-none max first old buffer piece = record {
  lines = [];
  whole = tt;
  text_is = refl;
  line_is = λ n e. e ∙ ap line_number (omega arith);
  reads = λ n e more. ap (λ k. formula_from_state max k old (lines_of more)) (omega arith);
  held_is = inr (refl, refl);
}

-- what was fed, and what follows it
behind : (max first number : ℕ) (old state : State) (buffer piece left rest : List ℕ) (g : Going max first old buffer piece state number left rest)
    → (n : ℕ) → first ≡ line_number n → (more : List ℕ) → formula_from_state max n old (lines_of (buffer ++ (piece ++ more))) ≡ formula_from_state max (n + length g.lines) state (lines_of (left ++ (rest ++ more)))
behind max first number old state buffer piece left rest g n first_is more =
    ap (λ t. formula_from_state max n old (lines_of t)) (sym (append_assoc buffer piece more) ∙ ap (λ t. t ++ more) g.text_is ∙ append_assoc (text_of_lines g.lines) (left ++ rest) more ∙ ap (λ t. text_of_lines g.lines ++ t) (append_assoc left rest more))
    ∙ g.reads n first_is (left ++ (rest ++ more))

-- the line that the held bytes and the front make
cut : (buffer rest front after more : List ℕ) → rest ≡ front ++ 10 ∷ after → HasNoLineEnd (buffer ++ front) → lines_of (buffer ++ (rest ++ more)) ≡ (buffer ++ front) ∷ lines_of (after ++ more)
cut buffer rest front after more e h =
    ap (λ r. lines_of (buffer ++ (r ++ more))) e
    ∙ ap (λ r. lines_of (buffer ++ r)) (append_assoc front (10 ∷ after) more)
    ∙ ap lines_of (sym (append_assoc buffer front (10 ∷ (after ++ more))))
    ∙ slice_split_at is_line_end (buffer ++ front) 10 (after ++ more) h refl

reads_of : (max k : ℕ) (lines : List (List ℕ)) (new : State) (read : Result FormulaValue CnfFault) → ((fault : CnfFault) → new ≡ Faulty fault → ⊥) → Reads max k lines new read → read ≡ formula_from_state max k new lines
reads_of max k lines Header read h r = r
reads_of max k lines (Clauses b) read h r = r
reads_of max k lines (Ended b) read h r = r
reads_of max k lines (Faulty fault) read h r = absurd (h fault refl)

pub going-more : (max first number : ℕ) (old state new : State) (buffer piece left rest front after : List ℕ) → Going max first old buffer piece state number left rest
    → rest ≡ front ++ 10 ∷ after → HasNoLineEnd (left ++ front)
    → ((k : ℕ) → number ≡ line_number k → (lines : List (List ℕ)) → Reads max (k + 1) lines new (formula_from_state max k state ((left ++ front) ∷ lines)))
    → ((fault : CnfFault) → new ≡ Faulty fault → ⊥)
    → Going max first old buffer piece new (min (number + 1) (2 ^ 64 - 1)) [] after
going-more max first number old state new buffer piece left rest front after g e h line sound = record {
  lines = g.lines ++ (left ++ front) ∷ [];
  whole = all_more g.lines (left ++ front) g.whole h;
  text_is = g.text_is ∙ ap (λ r. text_of_lines g.lines ++ (left ++ r)) e ∙ ap (λ r. text_of_lines g.lines ++ r) (sym (append_assoc left front (10 ∷ after))) ∙ sym (joined_more g.lines (left ++ front) after);
  line_is = λ n first_is. next_number (n + length g.lines) number (g.line_is n first_is) ∙ ap line_number (omega (arith, length-append g.lines ((left ++ front) ∷ [])));
  reads = λ n first_is more. ap (λ t. formula_from_state max n old (lines_of t)) (joined_more g.lines (left ++ front) more) ∙ g.reads n first_is ((left ++ front) ++ 10 ∷ more)
      ∙ ap (formula_from_state max (n + length g.lines) state) (slice_split_at is_line_end (left ++ front) 10 more h refl)
      ∙ reads_of max (n + length g.lines + 1) (lines_of more) new _ sound (line (n + length g.lines) (g.line_is n first_is) (lines_of more))
      ∙ ap (λ k. formula_from_state max k new (lines_of more)) (omega (arith, length-append g.lines ((left ++ front) ∷ [])));
  held_is = inl refl;
}

told-err : {Y : Type 0} (kind : CnfFaultKind) (line : ℕ) (read : Result Y CnfFault) → is_cnf_no_memory kind ≡ false → IsCnfTold kind line read → read ≡ Err (record { kind = kind; line = line })
told-err NoHeader line read m h = h
told-err BadHeader line read m h = h
told-err BadNumber line read m h = h
told-err VariableRange line read m h = h
told-err ClauseCount line read m h = h
told-err Truncated line read m h = h
told-err (NoMemory e) line read m h = cc

-- a fault in that line
pub taken-fault : (max first number : ℕ) (old state : State) (fault : CnfFault) (buffer piece left rest front after now : List ℕ) → Going max first old buffer piece state number left rest
    → rest ≡ front ++ 10 ∷ after → HasNoLineEnd (left ++ front) → HasNoLineEnd now
    → ((k : ℕ) → number ≡ line_number k → (lines : List (List ℕ)) → IsCnfTold fault.kind fault.line (formula_from_state max k state ((left ++ front) ∷ lines)))
    → Taken max first old buffer piece (Faulty fault) number now
taken-fault max first number old state fault buffer piece left rest front after now g e h none line = record {
  none = none;
  lines = g.lines;
  whole = g.whole;
  line_is = g.line_is;
  text_is = λ sound. cc;
  reads = λ sound. cc;
  told = λ kept is memory n first_is more.
      let same : fault ≡ kept = cc in
      subst (λ (f : CnfFault). formula_from_state max n old (lines_of (buffer ++ (piece ++ more))) ≡ Err f) same
      (behind max first number old state buffer piece left rest g n first_is more ∙ ap (formula_from_state max (n + length g.lines) state) (cut left rest front after more e h)
      ∙ told-err fault.kind fault.line _ (subst (λ (f : CnfFault). is_cnf_no_memory f.kind ≡ false) (sym same) memory) (line (n + length g.lines) (g.line_is n first_is) (lines_of (after ++ more))));
}

-- a line for which room was asked and refused
pub scratch-line : (max first number line : ℕ) (old state : State) (buffer piece left rest front after : List ℕ) → Going max first old buffer piece state number left rest → rest ≡ front ++ 10 ∷ after → line ≡ number
    → (0 < length left) ⊎ ((left ≡ []) × (asks_memory state (tokens_of front) ≡ true)) → NeedsMemoryFrom max first old buffer piece line
scratch-line max first number line old state buffer piece left rest front after g e here asked = record {
  lines = g.lines;
  whole = g.whole;
  left = left ++ rest;
  cut = g.text_is;
  line_is = λ n first_is. here ∙ g.line_is n first_is;
  state = state;
  reads = g.reads;
  scratch = elim asked [
    | inl some ↦ elim g.held_is [
      | inl none ↦ absurd (omega (arith, ap length none))
      | inr both ↦ inl (both.0, subst (λ (h : List ℕ). 0 < length h) both.1 some)
    ]
    | inr number ↦ inr (inr (front, after, ap (λ l. l ++ rest) number.0 ∙ e, number.1))
  ];
}

-- a line that isn't whole
pub scratch-rest : (max first number line : ℕ) (old state : State) (buffer piece left rest : List ℕ) → Going max first old buffer piece state number left rest → HasNoLineEnd left → HasNoLineEnd rest → 0 < length rest → line ≡ number
    → NeedsMemoryFrom max first old buffer piece line
scratch-rest max first number line old state buffer piece left rest g none unended some here = record {
  lines = g.lines;
  whole = g.whole;
  left = left ++ rest;
  cut = g.text_is;
  line_is = λ n first_is. here ∙ g.line_is n first_is;
  state = state;
  reads = g.reads;
  scratch = inr (inl (omega (arith, length-append left rest), no_line_end-both left rest none unended));
}

-- the same, where the refusal is kept
pub scratch-refused : (max first number : ℕ) (old state : State) (buffer piece left rest : List ℕ) (new : State) → Going max first old buffer piece state number left rest → HasNoLineEnd left → HasNoLineEnd rest → 0 < length rest
    → kept_fault new ≡ Some (record { kind = NoMemory no_memory; line = number }) → IfSome (kept_fault new) (λ fault. is_cnf_no_memory fault.kind ≡ true → NeedsMemoryFrom max first old buffer piece fault.line)
scratch-refused max first number old state buffer piece left rest new g none unended some e =
    subst (λ (o : Option CnfFault). IfSome o (λ fault. is_cnf_no_memory fault.kind ≡ true → NeedsMemoryFrom max first old buffer piece fault.line)) (sym e)
    (λ memory. scratch-rest max first number number old state buffer piece left rest g none unended some refl)

-- a state that isn't faulty keeps no fault
pub sound_state : (new : State) → ((fault : CnfFault) → new ≡ Faulty fault → ⊥) → kept_fault new ≡ None
sound_state Header h = refl
sound_state (Clauses b) h = refl
sound_state (Ended b) h = refl
sound_state (Faulty fault) h = absurd (h fault refl)

resumed_fault : (max n : ℕ) (lines : List (List ℕ)) (state : State) (fault : CnfFault) → kept_fault state ≡ Some fault → formula_from_state max n state lines ≡ Err fault
resumed_fault max n lines Header fault is = cc
resumed_fault max n lines (Clauses b) fault is = cc
resumed_fault max n lines (Ended b) fault is = cc
resumed_fault max n lines (Faulty kept) fault is = let same : kept ≡ fault = cc in ap (λ (f : CnfFault). Err f) same

-- the rest is held
pub taken-rest : (max first number : ℕ) (old state : State) (buffer piece left rest : List ℕ) → Going max first old buffer piece state number left rest → HasNoLineEnd (left ++ rest)
    → Taken max first old buffer piece state number (left ++ rest)
taken-rest max first number old state buffer piece left rest g h = record {
  none = h;
  lines = g.lines;
  whole = g.whole;
  line_is = g.line_is;
  text_is = λ sound. g.text_is;
  reads = λ sound. g.reads;
  told = λ fault is memory n first_is more. behind max first number old state buffer piece left rest g n first_is more
      ∙ resumed_fault max (n + length g.lines) (lines_of (left ++ (rest ++ more))) state fault is;
}

-- the reader goes on behind the piece
pub stands-fed : (max line : ℕ) (buffer : List ℕ) (old : State) (text piece : List ℕ) → CnfStandsAt max line buffer old text → (new : State) (number : ℕ) (left : List ℕ) → Taken max line old buffer piece new number left → kept_fault new ≡ None
    → CnfStandsAt max number left new (text ++ piece)
stands-fed max line buffer old text piece s new number left t sound = record {
  lines = s.lines ++ t.lines;
  whole = both s.lines t.lines s.whole t.whole;
  text_is = ap (λ x. x ++ piece) s.text_is ∙ append_assoc (text_of_lines s.lines) buffer piece ∙ ap (λ x. text_of_lines s.lines ++ x) (t.text_is sound) ∙ sym (joined_both s.lines t.lines left);
  line_is = t.line_is (length s.lines) s.line_is ∙ ap line_number (sym (length-append s.lines t.lines));
  reads = λ more. ap (read_cnf max) (joined_both s.lines t.lines more) ∙ s.reads (text_of_lines t.lines ++ more)
      ∙ t.reads sound (length s.lines) s.line_is more
      ∙ ap (λ k. formula_from_state max k new (lines_of more)) (sym (length-append s.lines t.lines));
}

-- whatever follows what was fed
read_on : (max line : ℕ) (buffer : List ℕ) (state : State) (text : List ℕ) (s : CnfStandsAt max line buffer state text) (more : List ℕ) → read_cnf max (text ++ more) ≡ formula_from_state max (length s.lines) state (lines_of (buffer ++ more))
read_on max line buffer state text s more =
    ap (λ t. read_cnf max (t ++ more)) s.text_is ∙ ap (read_cnf max) (append_assoc (text_of_lines s.lines) buffer more) ∙ s.reads (buffer ++ more)

-- a fault in the piece
pub fault-fed : (max line : ℕ) (buffer : List ℕ) (old : State) (text piece : List ℕ) → CnfStandsAt max line buffer old text → (new : State) (number : ℕ) (left : List ℕ) → Taken max line old buffer piece new number left
    → (fault : CnfFault) → kept_fault new ≡ Some fault → is_cnf_no_memory fault.kind ≡ false → HasFaultAlready max (text ++ piece) fault
fault-fed max line buffer old text piece s new number left t fault is memory more =
    ap (read_cnf max) (append_assoc text piece more) ∙ read_on max line buffer old text s (piece ++ more)
    ∙ t.told fault is memory (length s.lines) s.line_is more

-- the state that keeps what a line says is among the clauses
begins_by : (max : ℕ) (lines : List (List ℕ)) (state : State) (line : List ℕ) → ((more : List ℕ) → read_cnf max (text_of_lines lines ++ more) ≡ formula_from_state max (length lines) state (lines_of more))
    → asks_memory state (tokens_of line) ≡ true → BeginsByNumber max lines line
begins_by max lines Header line reads asks = cc
begins_by max lines (Clauses begun) line reads asks = record { begun = begun; reads = reads; number = asks }
begins_by max lines (Ended begun) line reads asks = cc
begins_by max lines (Faulty fault) line reads asks = cc

-- the whole lines of a text that ends within a line
whole_lines : (text : List ℕ) (lines : List (List ℕ)) (buffer : List ℕ) → AllByRecursion HasNoLineEnd lines → text ≡ text_of_lines lines ++ buffer → HasNoLineEnd buffer → all_but_last (lines_of text) ≡ lines
whole_lines text lines buffer whole e none =
    ap (λ t. all_but_last (lines_of t)) e ∙ cut-joined lines buffer whole ∙ ap (λ ls. lines ++ all_but_last ls) (cut-none buffer none) ∙ append-nil lines

-- a line needs room behind what was fed
pub scratch-fed : (max first : ℕ) (buffer : List ℕ) (old : State) (text piece : List ℕ) → CnfStandsAt max first buffer old text → HasNoLineEnd buffer → (line : ℕ) → NeedsMemoryFrom max first old buffer piece line → NeedsMemory max text piece line
scratch-fed max first buffer old text piece s none line r =
    let lines = s.lines ++ r.lines in
    let reads : (more : List ℕ) → read_cnf max (text_of_lines lines ++ more) ≡ formula_from_state max (length lines) r.state (lines_of more) = λ more.
    ap (read_cnf max) (joined_both s.lines r.lines more) ∙ s.reads (text_of_lines r.lines ++ more)
    ∙ r.reads (length s.lines) s.line_is more
    ∙ ap (λ k. formula_from_state max k r.state (lines_of more)) (sym (length-append s.lines r.lines)) in
    record {
      lines = lines;
      whole = both s.lines r.lines s.whole r.whole;
      left = r.left;
      cut = ap (λ x. x ++ piece) s.text_is ∙ append_assoc (text_of_lines s.lines) buffer piece ∙ ap (λ x. text_of_lines s.lines ++ x) r.cut ∙ sym (joined_both s.lines r.lines r.left);
      line_is = r.line_is (length s.lines) s.line_is ∙ ap line_number (sym (length-append s.lines r.lines));
      behind = omega (arith, ap length (whole_lines text s.lines buffer s.whole s.text_is none), length-append s.lines r.lines);
      scratch = elim r.scratch [
        | inl some ↦ inl (buffer, s.text_is ∙ ap (λ ls. text_of_lines ls ++ buffer) (sym (ap (λ ls. s.lines ++ ls) some.0 ∙ append-nil s.lines)), (some.1, none))
        | inr more ↦ inr (elim more [
          | inl unended ↦ inl unended
          | inr number ↦ inr (number.0, number.1, number.2, begins_by max lines r.state number.0 reads number.3)
        ])
      ];
    }

-- the end of the text
closed_fault : (max n : ℕ) (new : State) (read : Result FormulaValue CnfFault) (fault : CnfFault) → Reads max n [] new read → IsCnfTold fault.kind fault.line (formula_from_state max n new []) → is_cnf_no_memory fault.kind ≡ false → read ≡ Err fault
closed_fault max n Header read fault e h m = e ∙ told-err fault.kind fault.line _ m h
closed_fault max n (Clauses b) read fault e h m = e ∙ told-err fault.kind fault.line _ m h
closed_fault max n (Ended b) read fault e h m = e ∙ told-err fault.kind fault.line _ m h
closed_fault max n (Faulty kept) read fault e h m =
    let told = told-err {Y = FormulaValue} fault.kind fault.line _ m h in
    let same : fault ≡ kept = cc in
    let P : CnfFault → Type 0 = λ f. IsCnfTold f.kind f.line read in
    told-err fault.kind fault.line read m (subst P (sym same) e)

closed_ok : (max n : ℕ) (new : State) (read : Result FormulaValue CnfFault) (formula : FormulaValue) → Reads max n [] new read → formula_from_state max n new [] ≡ Ok formula → read ≡ Ok formula
closed_ok max n Header read formula e h = e ∙ h
closed_ok max n (Clauses b) read formula e h = e ∙ h
closed_ok max n (Ended b) read formula e h = e ∙ h
closed_ok max n (Faulty kept) read formula e h = cc

whole : (max line : ℕ) (buffer : List ℕ) (state : State) (text : List ℕ) (s : CnfStandsAt max line buffer state text) → HasNoLineEnd buffer → read_cnf max text ≡ formula_from_state max (length s.lines) state (buffer ∷ [])
whole max line buffer state text s none = ap (read_cnf max) s.text_is ∙ s.reads buffer ∙ ap (formula_from_state max (length s.lines) state) (slice_split_none is_line_end buffer none)

pub answered : (max line : ℕ) (buffer : List ℕ) (state : State) (text : List ℕ) (s : CnfStandsAt max line buffer state text) (new : State) (result : Result FormulaValue CnfFault) → HasNoLineEnd buffer
    → Reads max (length s.lines + 1) [] new (formula_from_state max (length s.lines) state (buffer ∷ []))
    → MatchResult result (λ formula. formula_from_state max (length s.lines + 1) new [] ≡ Ok formula) (λ fault. IsCnfTold fault.kind fault.line (formula_from_state max (length s.lines + 1) new []))
    → IsAnswer max text result
answered max line buffer state text s new (Ok formula) none reads end = whole max line buffer state text s none ∙ closed_ok max (length s.lines + 1) new _ formula reads end
answered max line buffer state text s new (Err fault) none reads end = λ m. whole max line buffer state text s none ∙ closed_fault max (length s.lines + 1) new _ fault reads end m

pub ends_at : (max line : ℕ) (buffer : List ℕ) (state : State) (text : List ℕ) → CnfStandsAt max line buffer state text → HasNoLineEnd buffer → line ≡ last_number text
ends_at max line buffer state text s none = s.line_is ∙ ap (λ ls. line_number (length ls)) (sym (whole_lines text s.lines buffer s.whole s.text_is none))

pub ends_by : (max line : ℕ) (buffer : List ℕ) (state : State) (text : List ℕ) → CnfStandsAt max line buffer state text → HasNoLineEnd buffer → asks_memory state (tokens_of buffer) ≡ true → EndsByNumber max text
ends_by max line buffer state text s none asks = record {
  lines = s.lines;
  whole = s.whole;
  last = buffer;
  cut = s.text_is;
  none = none;
  begins = begins_by max s.lines state buffer s.reads asks;
}

pub fault-at_end : (max : ℕ) (text : List ℕ) (fault : CnfFault) → HasFaultAlready max text fault → HasFault max text fault
fault-at_end max text fault h = ap (read_cnf max) (sym (append-nil text)) ∙ h []

-- no fault is kept where none is found
pub none_kept : (o : Option CnfFault) → ((fault : CnfFault) → o ≡ Some fault → ⊥) → o ≡ None
none_kept None h = refl
none_kept (Some fault) h = absurd (h fault refl)

-- what is told at the end, of the state behind the last line
pub told_line : (o : Option CnfFault) (r : Result FormulaValue CnfFault) (line last : ℕ) (A B : CnfFault → Type 0) → line ≡ last → IfSome o (λ fault. (fault.line ≡ line) × A fault) → IfSome o (λ fault. r ≡ Err fault)
    → (o ≡ None → IfErr r (λ fault. (fault.line ≡ line) × B fault)) → IfErr r (λ fault. fault.line ≡ last)
told_line None (Ok formula) line last A B e some again none = tt
told_line None (Err fault) line last A B e some again none = (none refl).0 ∙ e
told_line (Some kept) (Ok formula) line last A B e some again none = tt
told_line (Some kept) (Err fault) line last A B e some again none = let same : fault ≡ kept = cc in ap (λ (f : CnfFault). f.line) same ∙ some.0 ∙ e

pub told_memory : (o : Option CnfFault) (r : Result FormulaValue CnfFault) (line : ℕ) (P : Type 0) → IfSome o (λ fault. (fault.line ≡ line) × (is_cnf_no_memory fault.kind ≡ true → P)) → IfSome o (λ fault. r ≡ Err fault)
    → (o ≡ None → IfErr r (λ fault. (fault.line ≡ line) × (is_cnf_no_memory fault.kind ≡ false))) → IfErr r (λ fault. is_cnf_no_memory fault.kind ≡ true → P)
told_memory None (Ok formula) line P some again none = tt
told_memory None (Err fault) line P some again none = λ memory. let other : is_cnf_no_memory fault.kind ≡ false = (none refl).1 in cc
told_memory (Some kept) (Ok formula) line P some again none = tt
told_memory (Some kept) (Err fault) line P some again none = λ memory. let same : fault ≡ kept = cc in some.1 (subst (λ (f : CnfFault). is_cnf_no_memory f.kind ≡ true) same memory)

pub asks_at_end : {A B : Type 0} (r : Result FormulaValue CnfFault) → (A → B) → IfErr r (λ fault. is_cnf_no_memory fault.kind ≡ true → A) → IfErr r (λ fault. is_cnf_no_memory fault.kind ≡ true → B)
asks_at_end (Ok formula) f h = tt
asks_at_end (Err fault) f h = λ memory. f (h memory)

-- a reading is a formula or a fault
pub either : (read : Result FormulaValue CnfFault) → ((formula : FormulaValue) × (read ≡ Ok formula)) ⊎ ((fault : CnfFault) × (read ≡ Err fault))
either (Ok formula) = inl (formula, refl)
either (Err fault) = inr (fault, refl)

pub not_both : (read : Result FormulaValue CnfFault) (formula : FormulaValue) (fault : CnfFault) → read ≡ Ok formula → read ≡ Err fault → ⊥
not_both read formula fault e f = cc

pub one_formula : (read : Result FormulaValue CnfFault) (formula other : FormulaValue) → read ≡ Ok formula → read ≡ Ok other → formula ≡ other
one_formula read formula other e f = cc

pub one_fault : (read : Result FormulaValue CnfFault) (fault other : CnfFault) → read ≡ Err fault → read ≡ Err other → fault ≡ other
one_fault read fault other e f = cc
