-- What a reader of lines answers at each text at which it stands.
use Rattle.std.proofs.Common.{◌≡◌, ℕ, ◌+◌, ◌-◌, Bool, true, false, cond, List, [], ◌++◌, length, take, drop, get_or, Option, None, Some, Ok, refl, sym, ap, ◌∙◌, subst, arith, length-append}
use Rattle.std.proofs.lemmas.List.{append-nil, get_or_append_left}
use Rattle.std.specs.List.{slice_get}
use Rattle.std.specs.Prelude.{MatchOption, MatchBool, is_some}
use Rattle.lj_text.specs.declared.line.Line.{Line}
use Rattle.lj_text.specs.declared.lines.fault.LineFault.{LineFault}
use Rattle.lj_text.specs.declared.lines.look.Found.{Found}
use Rattle.lj_text.specs.Bytes.{line_number, lines_of}
use Rattle.lj_text.specs.Lines.{Said, said_from, whole_said, all_said, whole_said_from, all_said_from, all_but_last}
use Rattle.lj_text.specs.LinesRead.{LinesRead, HasNoLineEnd, text_of_lines, StandsWithin, StandsBehind, LineReaderStandsAt, line_answer, handed_out, line_number_of, last_number, is_line_no_memory}
use Rattle.lj_text.specs.inner.LinesBuffered.{IsAhead, reader_past, reader_with_fault}
use Rattle.lj_text.specs.inner.Looking.{Looked, LookedBehind, IsTaken, said_of}
use Rattle.lj_text.proofs.StandLemmas.{both, joined_both, whole-joined, all-joined, whole-none, get-behind, said_from-append, cut-joined, cut-none}
use Rattle.lj_text.proofs.PassLemmas.{none-open, after_is}
use Rattle.lj_text.proofs.RunLemmas.{text-ends}

-- the whole lines that were not handed out are those ahead
pub whole-at : (r : LinesRead) (text : List ℕ) (given : ℕ) (s : StandsWithin r text given)
    → slice_get (whole_said r.max text) given ≡ slice_get (whole_said_from r.max (length s.lines) r.ahead) 0
whole-at r text given s =
    ap (λ t. slice_get (whole_said r.max t) given) s.text_is
    ∙ ap (λ (ss : List Said). slice_get ss given) (whole-joined r.max 0 s.lines r.ahead s.whole)
    ∙ ap (λ g. slice_get (said_from r.max 0 s.lines ++ whole_said_from r.max (0 + length s.lines) r.ahead) g) s.given_is
    ∙ get-behind (said_from r.max 0 s.lines) (whole_said_from r.max (0 + length s.lines) r.ahead)
    ∙ ap (λ n. slice_get (whole_said_from r.max n r.ahead) 0) (omega arith)

pub all-at : (r : LinesRead) (text : List ℕ) (given : ℕ) (s : StandsWithin r text given)
    → slice_get (all_said r.max text) given ≡ slice_get (all_said_from r.max (length s.lines) r.ahead) 0
all-at r text given s =
    ap (λ t. slice_get (all_said r.max t) given) s.text_is
    ∙ ap (λ (ss : List Said). slice_get ss given) (all-joined r.max 0 s.lines r.ahead s.whole)
    ∙ ap (λ g. slice_get (said_from r.max 0 s.lines ++ all_said_from r.max (0 + length s.lines) r.ahead) g) s.given_is
    ∙ get-behind (said_from r.max 0 s.lines) (all_said_from r.max (0 + length s.lines) r.ahead)
    ∙ ap (λ n. slice_get (all_said_from r.max n r.ahead) 0) (omega arith)

-- what was found, if anything
abbrev pub found_said : ℕ → Option Line → Option Said
found_said at None = None
found_said at (Some line) = Some (record { line = at; says = Ok line })

first_of_said : (at : ℕ) (o : Option Line) (more : List Said) → (o ≡ None → more ≡ []) → slice_get (said_of at o ++ more) 0 ≡ found_said at o
first_of_said at None more h = ap (λ (ss : List Said). slice_get ss 0) (h refl)
first_of_said at (Some line) more h = refl

pub whole-found : (max k : ℕ) (ahead : List ℕ) (found : Found) (p : Looked max k ahead found) → slice_get (whole_said_from max k ahead) 0 ≡ found_said found.at found.line
whole-found max k ahead found p =
    ap (λ (ss : List Said). slice_get ss 0) (ap (whole_said_from max k) p.ahead_is ∙ whole-joined max k p.lines p.after p.whole ∙ ap (λ ss. ss ++ whole_said_from max (k + length p.lines) p.after) p.said_is)
    ∙ first_of_said found.at found.line (whole_said_from max (k + length p.lines) p.after) (λ none. whole-none max (k + length p.lines) p.after (none-open max k ahead found p none))

-- the first of all lines is the first whole one, where there is one
all-found_some : (at : ℕ) (o : Option Line) (more : List Said) → is_some o ≡ true → slice_get (said_of at o ++ more) 0 ≡ found_said at o
all-found_some at None more h = cc
all-found_some at (Some line) more h = refl

pub all-found : (max k : ℕ) (ahead : List ℕ) (found : Found) (p : Looked max k ahead found) → is_some found.line ≡ true → slice_get (all_said_from max k ahead) 0 ≡ found_said found.at found.line
all-found max k ahead found p some =
    ap (λ (ss : List Said). slice_get ss 0) (ap (all_said_from max k) p.ahead_is ∙ all-joined max k p.lines p.after p.whole ∙ ap (λ ss. ss ++ all_said_from max (k + length p.lines) p.after) p.said_is)
    ∙ all-found_some found.at found.line (all_said_from max (k + length p.lines) p.after) some

said_alone : (at : ℕ) (o : Option Line) → slice_get (said_of at o) 0 ≡ found_said at o
said_alone at None = refl
said_alone at (Some line) = refl

pub behind-found : (max k : ℕ) (ahead : List ℕ) (found : Found) (p : LookedBehind max k ahead found) → slice_get (all_said_from max k ahead) 0 ≡ found_said found.at found.line
behind-found max k ahead found p = ap (λ (ss : List Said). slice_get ss 0) p.said_is ∙ said_alone found.at found.line

pub answers : (at : ℕ) (o : Option Line) → line_answer (found_said at o) ≡ Ok o
answers at None = refl
answers at (Some line) = refl

-- the lines that were passed are done
count_said : (at : ℕ) (o : Option Line) → length (said_of at o) ≡ handed_out (Ok o)
count_said at None = refl
count_said at (Some line) = refl

pub stands-passed : (r : LinesRead) (text : List ℕ) (given : ℕ) (found : Found) (s : StandsWithin r text given) → Looked r.max (length s.lines) r.ahead found
    → StandsWithin (reader_past r found) text (given + handed_out (Ok found.line))
stands-passed r text given found s p =
    let after : drop (length r.ahead - found.left) r.ahead ≡ p.after = after_is r.max (length s.lines) r.ahead found p in
    let said : said_from r.max 0 (s.lines ++ p.lines) ≡ said_from r.max 0 s.lines ++ said_of found.at found.line =
    said_from-append r.max 0 s.lines p.lines ∙ ap (λ n. said_from r.max 0 s.lines ++ said_from r.max n p.lines) (omega arith) ∙ ap (λ ss. said_from r.max 0 s.lines ++ ss) p.said_is in
    record {
      lines = s.lines ++ p.lines;
      whole = both s.lines p.lines s.whole p.whole;
      text_is = s.text_is ∙ ap (λ a. text_of_lines s.lines ++ a) p.ahead_is ∙ sym (joined_both s.lines p.lines p.after) ∙ ap (λ a. text_of_lines (s.lines ++ p.lines) ++ a) (sym after);
      line_is = p.number_is ∙ ap line_number (sym (length-append s.lines p.lines));
      given_is = omega (arith, s.given_is, count_said found.at found.line, ap length said, length-append (said_from r.max 0 s.lines) (said_of found.at found.line));
    }

-- the number of the line being read
pub target-none : (r : LinesRead) (text : List ℕ) (given : ℕ) (found : Found) (s : StandsWithin r text given) (p : Looked r.max (length s.lines) r.ahead found) → found.line ≡ None → found.at ≡ last_number text
target-none r text given found s p none =
    let P : Option Line → Type 0 = λ o. MatchOption o (HasNoLineEnd p.after × (found.at ≡ found.number)) (λ line. Unit {0}) in
    let last : all_but_last (lines_of text) ≡ s.lines ++ p.lines =
    ap (λ t. all_but_last (lines_of t)) (s.text_is ∙ ap (λ a. text_of_lines s.lines ++ a) p.ahead_is)
    ∙ cut-joined s.lines (text_of_lines p.lines ++ p.after) s.whole
    ∙ ap (λ ls. s.lines ++ ls) (cut-joined p.lines p.after p.whole ∙ ap (λ ls. p.lines ++ all_but_last ls) (cut-none p.after (none-open r.max (length s.lines) r.ahead found p none)) ∙ append-nil p.lines) in
    (subst P none p.none_is).1 ∙ p.number_is ∙ ap line_number (sym (ap length last ∙ length-append s.lines p.lines))

body_tokens : (at last : ℕ) (o : Option Line) → (o ≡ None → at ≡ last) → at ≡ line_number_of (found_said at o) last
body_tokens at last None h = h refl
body_tokens at last (Some line) h = refl

pub target-whole : (r : LinesRead) (text : List ℕ) (given : ℕ) (found : Found) (s : StandsWithin r text given) (p : Looked r.max (length s.lines) r.ahead found)
    → found.at ≡ line_number_of (slice_get (whole_said r.max text) given) (last_number text)
target-whole r text given found s p =
    body_tokens found.at (last_number text) found.line (λ none. target-none r text given found s p none)
    ∙ ap (λ o. line_number_of o (last_number text)) (sym (whole-at r text given s ∙ whole-found r.max (length s.lines) r.ahead found p))

-- what was found may be passed
pub ahead-found : (max k : ℕ) (ahead : List ℕ) (found : Found) → Looked max k ahead found → IsAhead ahead found
ahead-found max k ahead found p =
    let after : drop (length ahead - found.left) ahead ≡ p.after = after_is max k ahead found p in
    let P : List ℕ → Type 0 = λ r. HasNoLineEnd (take found.searched r) in
    record {
      left = omega (arith, p.left_is, ap length p.ahead_is, length-append (text_of_lines p.lines) p.after);
      begins = λ some moved.
          let target : length ahead - found.left ≡ length (text_of_lines p.lines) = omega (arith, p.left_is, ap length p.ahead_is, length-append (text_of_lines p.lines) p.after) in
          ap (λ bs. get_or bs (length ahead - found.left - 1) 0) p.ahead_is
          ∙ get_or_append_left (text_of_lines p.lines) p.after 0 (length ahead - found.left - 1) (omega arith)
          ∙ ap (λ n. get_or (text_of_lines p.lines) (n - 1) 0) target
          ∙ text-ends p.lines (omega arith);
      searched = p.searched_is;
      none_before = subst P (sym after) p.none_before;
      before = k + length p.lines;
      number_is = p.number_is;
    }

-- before the input has ended
pub within-of : (r : LinesRead) (text : List ℕ) (given : ℕ) → r.finished ≡ false → LineReaderStandsAt r text given → StandsWithin r text given
within-of r text given h s = let P : Bool → Type 0 = λ b. MatchBool b (StandsBehind r text given) (StandsWithin r text given) in subst P h s

pub stands-of : (r : LinesRead) (text : List ℕ) (given : ℕ) → r.finished ≡ false → StandsWithin r text given → LineReaderStandsAt r text given
stands-of r text given h s = let P : Bool → Type 0 = λ b. MatchBool b (StandsBehind r text given) (StandsWithin r text given) in subst P (sym h) s

-- the line that was taken is the answer, and the reader stands behind it
pub taken-answer : (r new : LinesRead) (text : List ℕ) (given : ℕ) (line : Option Line) → IsTaken r new line → StandsWithin r text given → Ok line ≡ line_answer (slice_get (whole_said r.max text) given)
taken-answer r new text given line t s =
    ap Ok (sym t.line_is) ∙ sym (ap line_answer (whole-at r text given s ∙ whole-found r.max (length s.lines) r.ahead t.found (t.looked (length s.lines) s.line_is)) ∙ answers t.found.at t.found.line)

pub taken-stands : (r new : LinesRead) (text : List ℕ) (given : ℕ) (line : Option Line) → r.finished ≡ false → IsTaken r new line → StandsWithin r text given → LineReaderStandsAt new text (given + handed_out (Ok line))
taken-stands r new text given line going t s =
    rw (t.passed, sym t.line_is) (stands-of (reader_past r t.found) text _ going (stands-passed r text given t.found s (t.looked (length s.lines) s.line_is)))

pub taken-at : (r new : LinesRead) (text : List ℕ) (given : ℕ) (line : Option Line) → IsTaken r new line → StandsWithin r text given → new.at ≡ line_number_of (slice_get (whole_said r.max text) given) (last_number text)
taken-at r new text given line t s = ap (λ (v : LinesRead). v.at) t.passed ∙ target-whole r text given t.found s (t.looked (length s.lines) s.line_is)

pub kept-at : (r : LinesRead) (fault : LineFault) → is_line_no_memory fault.kind ≡ false → (reader_with_fault r fault).at ≡ fault.line
kept-at r fault h = ap (λ b. (cond b r (record r { at = fault.line; fault = Some fault })).at) h

-- the number of the last line
pub number-behind : (r : LinesRead) (text : List ℕ) (given : ℕ) (found : Found) (s : StandsWithin r text given) → LookedBehind r.max (length s.lines) r.ahead found → found.number ≡ last_number text
number-behind r text given found s p =
    let last : all_but_last (lines_of text) ≡ s.lines ++ all_but_last (lines_of r.ahead) =
    ap (λ t. all_but_last (lines_of t)) s.text_is ∙ cut-joined s.lines r.ahead s.whole in
    p.number_is ∙ ap line_number (sym (ap length last ∙ length-append s.lines (all_but_last (lines_of r.ahead))))

-- the last line is done too
pub stands-behind : (r new : LinesRead) (text : List ℕ) (given : ℕ) (found : Found) (s : StandsWithin r text given) → LookedBehind r.max (length s.lines) r.ahead found
    → new.max ≡ r.max → new.line ≡ found.number → StandsBehind new text (given + handed_out (Ok found.line))
stands-behind r new text given found s p max_is line_is =
    let all : all_said r.max text ≡ said_from r.max 0 s.lines ++ said_of found.at found.line =
    ap (all_said r.max) s.text_is ∙ all-joined r.max 0 s.lines r.ahead s.whole
    ∙ ap (λ n. said_from r.max 0 s.lines ++ all_said_from r.max n r.ahead) (omega arith) ∙ ap (λ ss. said_from r.max 0 s.lines ++ ss) p.said_is in
    let count : length (all_said new.max text) ≡ length (said_from r.max 0 s.lines) + length (said_of found.at found.line) =
    ap (λ m. length (all_said m text)) max_is ∙ ap length all ∙ length-append (said_from r.max 0 s.lines) (said_of found.at found.line) in
    record {
      given_is = omega (arith, s.given_is, count_said found.at found.line, count);
      line_is = line_is ∙ number-behind r text given found s p;
    }

pub target-behind : (r : LinesRead) (text : List ℕ) (given : ℕ) (found : Found) (s : StandsWithin r text given) (p : LookedBehind r.max (length s.lines) r.ahead found)
    → found.at ≡ line_number_of (slice_get (all_said r.max text) given) (last_number text)
target-behind r text given found s p =
    body_tokens found.at (last_number text) found.line (λ none. p.at_is ∙ number-behind r text given found s p)
    ∙ ap (λ o. line_number_of o (last_number text)) (sym (all-at r text given s ∙ behind-found r.max (length s.lines) r.ahead found p))

not_both : (o : Option Line) → is_some o ≡ true → o ≡ None → ⊥
not_both None h e = cc
not_both (Some line) h e = cc

pub target-some : (r : LinesRead) (text : List ℕ) (given : ℕ) (found : Found) (s : StandsWithin r text given) (p : Looked r.max (length s.lines) r.ahead found) → is_some found.line ≡ true
    → found.at ≡ line_number_of (slice_get (all_said r.max text) given) (last_number text)
target-some r text given found s p some =
    body_tokens found.at (last_number text) found.line (λ none. absurd (not_both found.line some none))
    ∙ ap (λ o. line_number_of o (last_number text)) (sym (all-at r text given s ∙ all-found r.max (length s.lines) r.ahead found p some))

pub ahead-behind : (max k : ℕ) (ahead : List ℕ) (found : Found) → LookedBehind max k ahead found → IsAhead ahead found
ahead-behind max k ahead found p = record {
  left = omega (arith, p.left_is);
  begins = λ some. absurd (omega (arith, p.left_is));
  searched = omega (arith, p.left_is, p.searched_is);
  none_before = let P : ℕ → Type 0 = λ n. HasNoLineEnd (take n (drop (length ahead - found.left) ahead)) in subst P (sym p.searched_is) (λ i d h. absurd (omega arith));
  before = k + length (all_but_last (lines_of ahead));
  number_is = p.number_is;
}

by_memory : (b : Bool) (r : LinesRead) (fault : LineFault) → (cond b r (record r { at = fault.line; fault = Some fault })).max ≡ r.max
by_memory true r fault = refl
by_memory false r fault = refl

pub kept-max : (r : LinesRead) (fault : LineFault) → (reader_with_fault r fault).max ≡ r.max
kept-max r fault = by_memory (is_line_no_memory fault.kind) r fault

stands_by_memory : (b : Bool) (r : LinesRead) (fault : LineFault) (text : List ℕ) (given : ℕ) → r.finished ≡ false → StandsWithin r text given
    → LineReaderStandsAt (cond b r (record r { at = fault.line; fault = Some fault })) text given
stands_by_memory true r fault text given h s = stands-of r text given h s
stands_by_memory false r fault text given h s = stands-of (record r { at = fault.line; fault = Some fault }) text given h (record { lines = s.lines; whole = s.whole; text_is = s.text_is; line_is = s.line_is; given_is = s.given_is })

pub stands-kept : (r : LinesRead) (fault : LineFault) (text : List ℕ) (given : ℕ) → r.finished ≡ false → StandsWithin r text given → LineReaderStandsAt (reader_with_fault r fault) text (given + 0)
stands-kept r fault text given h s =
    let P : ℕ → Type 0 = λ n. LineReaderStandsAt (reader_with_fault r fault) text n in
    let same : given ≡ given + 0 = omega arith in
    subst P same (stands_by_memory (is_line_no_memory fault.kind) r fault text given h s)

pub at_true : (b : Bool) (P Q : Type 0) → b ≡ true → MatchBool b P Q → P
at_true true P Q h p = p
at_true false P Q h p = cc

pub at_false : (b : Bool) (P Q : Type 0) → b ≡ false → MatchBool b P Q → Q
at_false true P Q h q = cc
at_false false P Q h q = q
