-- Silent lines that were passed, and the line behind them.
use Rattle.std.proofs.Common.{◌≡◌, ℕ, ◌+◌, ◌-◌, ◌^◌, ◌≤◌, min, Bool, true, false, cond, List, [], ◌∷◌, ◌++◌, length, drop, Option, None, Some, Result, Ok, Err, refl, sym, ap, ◌∙◌, subst, arith, length-append}
use Rattle.std.proofs.lemmas.List.{append-nil, take_all}
use Rattle.std.specs.List.{AllByRecursion, slice_get}
use Rattle.lj_text.specs.declared.line.Line.{Line}
use Rattle.lj_text.specs.declared.lines.fault.LineFault.{LineFault}
use Rattle.lj_text.specs.declared.lines.fault.LineFaultKind.{LineFaultKind}
use Rattle.lj_text.specs.declared.lines.fault.LineFaultKind.TheVariants.{BadNumber, NumberRange, Syntax, Truncated, NoMemory}
use Rattle.lj_text.specs.Bytes.{line_number, tokens_of, lines_of, is_silent}
use Rattle.lj_text.specs.Lines.{Said, said_by, said_from, whole_said_from, all_said_from, all_but_last, line_of, with_read}
use Rattle.lj_text.specs.inner.LineReading.{line_said, IsLineTold}
use Rattle.lj_text.specs.LinesRead.{HasNoLineEnd, IsSaidAt, IsSaidRight, text_of_lines, is_line_no_memory}
use Rattle.lj_text.specs.declared.lines.look.Found.{Found}
use Rattle.std.specs.Prelude.{IsOk, MatchOption, is_some}
use Rattle.std.proofs.Math.Seq.{drop-append_seam}
use Rattle.lj_text.specs.inner.Looking.{Looked, LookedBehind, Fails, FailsToEnd, said_of}
use Rattle.lj_text.proofs.StandLemmas.{all_more, joined_more, next_number, said_for, said-spoken, said_from-append, whole-joined, all-joined, all-none, cut-joined, cut-none}

for_line : (number : ℕ) (line : Option Line) → said_for number (Ok line) ≡ said_of number line
for_line number None = refl
for_line number (Some line) = refl

-- silent lines stand before the rest
pub record Passed (max first : ℕ) (ahead rest : List ℕ) (number : ℕ) : Type 0 where
  pub lines : List (List ℕ)
  pub whole : AllByRecursion HasNoLineEnd lines
  pub ahead_is : ahead ≡ text_of_lines lines ++ rest
  pub number_is : (k : ℕ) → first ≡ line_number k → number ≡ line_number (k + length lines)
  pub silent : (k : ℕ) → said_from max k lines ≡ []

pub passed-none : (max first : ℕ) (ahead : List ℕ) → Passed max first ahead ahead first
passed-none max first ahead = record {
  lines = [];
  whole = tt;
  ahead_is = refl;
  number_is = λ k h. h ∙ ap line_number (omega arith);
  silent = λ k. refl;
}

said_more : (max k : ℕ) (ls : List (List ℕ)) (l : List ℕ) → said_from max k ls ≡ [] → said_from max k (ls ++ l ∷ []) ≡ said_by max (k + length ls) true l
said_more max k ls l h = said_from-append max k ls (l ∷ []) ∙ ap (λ ss. ss ++ said_from max (k + length ls) (l ∷ [])) h ∙ append-nil (said_by max (k + length ls) true l)

-- one silent line more
pub passed-more : (max first : ℕ) (ahead rest l after : List ℕ) (number : ℕ) → Passed max first ahead rest number → rest ≡ l ++ 10 ∷ after → HasNoLineEnd l
    → line_said max true (tokens_of l) ≡ Ok None → Passed max first ahead after (min (number + 1) (2 ^ 64 - 1))
passed-more max first ahead rest l after number p e h silent = record {
  lines = p.lines ++ l ∷ [];
  whole = all_more p.lines l p.whole h;
  ahead_is = p.ahead_is ∙ ap (λ r. text_of_lines p.lines ++ r) e ∙ sym (joined_more p.lines l after);
  number_is = λ k first_is. next_number (k + length p.lines) number (p.number_is k first_is) ∙ ap line_number (omega (arith, length-append p.lines (l ∷ [])));
  silent = λ k. said_more max k p.lines l (p.silent k) ∙ said-spoken max (k + length p.lines) true l ∙ ap (said_for (line_number (k + length p.lines))) silent;
}

-- the line behind them says something
pub looked-some : (max first k : ℕ) (ahead rest l after : List ℕ) (number left : ℕ) (line : Line) → Passed max first ahead rest number → first ≡ line_number k → rest ≡ l ++ 10 ∷ after → HasNoLineEnd l
    → line_said max true (tokens_of l) ≡ Ok (Some line) → left ≡ length after
    → Looked max k ahead (record { line = Some line; at = number; number = min (number + 1) (2 ^ 64 - 1); left = left; searched = 0 })
looked-some max first k ahead rest l after number left line p first_is e h says left_is = record {
  lines = p.lines ++ l ∷ [];
  after = after;
  whole = all_more p.lines l p.whole h;
  ahead_is = p.ahead_is ∙ ap (λ r. text_of_lines p.lines ++ r) e ∙ sym (joined_more p.lines l after);
  left_is = left_is;
  number_is = next_number (k + length p.lines) number (p.number_is k first_is) ∙ ap line_number (omega (arith, length-append p.lines (l ∷ [])));
  said_is = said_more max k p.lines l (p.silent k) ∙ said-spoken max (k + length p.lines) true l ∙ ap (said_for (line_number (k + length p.lines))) says
      ∙ ap (λ n. record { line = n; says = Ok line } ∷ []) (sym (p.number_is k first_is));
  searched_is = omega arith;
  none_before = λ i d h. absurd (omega arith);
  all_searched = λ e. cc;
  none_is = tt;
}

-- the first that says something, behind silent ones
first_said : (max k : ℕ) (ls : List (List ℕ)) (l after : List ℕ) → AllByRecursion HasNoLineEnd ls → HasNoLineEnd l → said_from max k ls ≡ []
    → whole_said_from max k (text_of_lines ls ++ (l ++ 10 ∷ after)) ≡ said_by max (k + length ls) true l ++ whole_said_from max (k + length ls + 1) after
first_said max k ls l after w h silent =
    let all : AllByRecursion HasNoLineEnd (ls ++ l ∷ []) = all_more ls l w h in
    ap (whole_said_from max k) (sym (joined_more ls l after))
    ∙ whole-joined max k (ls ++ l ∷ []) after all
    ∙ ap (λ ss. ss ++ whole_said_from max (k + length (ls ++ l ∷ [])) after) (said_more max k ls l silent)
    ∙ ap (λ n. said_by max (k + length ls) true l ++ whole_said_from max n after) (omega (arith, length-append ls (l ∷ [])))

fails_at : (max : ℕ) (kind : LineFaultKind) (l : List ℕ) → is_line_no_memory kind ≡ false → IsLineTold kind (line_said max true (tokens_of l)) → line_said max true (tokens_of l) ≡ Err kind
fails_at max (NoMemory e) l n t = cc
fails_at max BadNumber l n t = t
fails_at max NumberRange l n t = t
fails_at max Syntax l n t = t
fails_at max Truncated l n t = t

-- what a line says that isn't silent
said_loud : (max n : ℕ) (ended : Bool) (l : List ℕ) → is_silent (tokens_of l) ≡ false → said_by max n ended l ≡ record { line = line_number n; says = line_of max ended (tokens_of l) } ∷ []
said_loud max n ended l loud = ap (λ b. cond b [] (record { line = line_number n; says = line_of max ended (tokens_of l) } ∷ [])) loud

fault_alone : (read : Result Line LineFaultKind) (kind : LineFaultKind) → with_read Some read ≡ Err kind → read ≡ Err kind
fault_alone (Ok line) kind h = cc
fault_alone (Err other) kind h = cc

loud_fault : (max : ℕ) (ended : Bool) (l : List ℕ) (kind : LineFaultKind) → is_silent (tokens_of l) ≡ false → line_said max ended (tokens_of l) ≡ Err kind → line_of max ended (tokens_of l) ≡ Err kind
loud_fault max ended l kind loud h =
    fault_alone (line_of max ended (tokens_of l)) kind (sym (ap (λ b. cond b (Ok None) (with_read Some (line_of max ended (tokens_of l)))) loud) ∙ h)

-- the line behind them has a fault
pub fails-here : (max first k : ℕ) (ahead rest l after : List ℕ) (number : ℕ) (fault : LineFault) → Passed max first ahead rest number → first ≡ line_number k → rest ≡ l ++ 10 ∷ after → HasNoLineEnd l
    → (fault.line ≡ number) × IsLineTold fault.kind (line_said max true (tokens_of l)) → is_silent (tokens_of l) ≡ false → (is_line_no_memory fault.kind ≡ true → IsOk (line_of max true (tokens_of l)))
    → Fails max k ahead fault
fails-here max first k ahead rest l after number fault p first_is e h told loud right =
    let number_is : line_number (k + length p.lines) ≡ fault.line = sym (told.0 ∙ p.number_is k first_is) in
    let first : slice_get (whole_said_from max k ahead) 0 ≡ Some (record { line = fault.line; says = line_of max true (tokens_of l) }) =
    ap (λ bytes. slice_get (whole_said_from max k bytes) 0) (p.ahead_is ∙ ap (λ r. text_of_lines p.lines ++ r) e)
    ∙ ap (λ (ss : List Said). slice_get ss 0) (first_said max k p.lines l after p.whole h (p.silent k))
    ∙ ap (λ (ss : List Said). slice_get (ss ++ whole_said_from max (k + length p.lines + 1) after) 0) (said_loud max (k + length p.lines) true l loud)
    ∙ ap (λ n. Some (record { line = n; says = line_of max true (tokens_of l) })) number_is in
    record {
      told = λ memory. first ∙ ap (λ (r : Result Line LineFaultKind). Some (record { line = fault.line; says = r })) (loud_fault max true l fault.kind loud (fails_at max fault.kind l memory told.1));
      line_is = subst (λ (o : Option Said). IsSaidAt o fault.line) (sym first) refl;
      right = λ memory. subst (λ (o : Option Said). IsSaidRight o) (sym first) (right memory);
    }

fails_at_end : (max : ℕ) (kind : LineFaultKind) (l : List ℕ) → is_line_no_memory kind ≡ false → IsLineTold kind (line_said max false (tokens_of l)) → line_said max false (tokens_of l) ≡ Err kind
fails_at_end max (NoMemory e) l n t = cc
fails_at_end max BadNumber l n t = t
fails_at_end max NumberRange l n t = t
fails_at_end max Syntax l n t = t
fails_at_end max Truncated l n t = t

-- where the look found no line, all that is said is said by the last one
pub last_said : (max k : ℕ) (ahead : List ℕ) (found : Found) (p : Looked max k ahead found) → found.line ≡ None → all_said_from max k ahead ≡ said_by max (k + length p.lines) false p.after
last_said max k ahead found p none =
    let silent : said_from max k p.lines ≡ [] = p.said_is ∙ ap (said_of found.at) none in
    let P : Option Line → Type 0 = λ o. MatchOption o (HasNoLineEnd p.after × (found.at ≡ found.number)) (λ line. Unit {0}) in
    let none_after : HasNoLineEnd p.after = (subst P none p.none_is).0 in
    ap (all_said_from max k) p.ahead_is ∙ all-joined max k p.lines p.after p.whole
    ∙ ap (λ ss. ss ++ all_said_from max (k + length p.lines) p.after) silent
    ∙ all-none max (k + length p.lines) p.after none_after

pub none-open : (max k : ℕ) (ahead : List ℕ) (found : Found) (p : Looked max k ahead found) → found.line ≡ None → HasNoLineEnd p.after
none-open max k ahead found p none =
    let P : Option Line → Type 0 = λ o. MatchOption o (HasNoLineEnd p.after × (found.at ≡ found.number)) (λ line. Unit {0}) in
    (subst P none p.none_is).0

-- how many whole lines stand ahead, where the look found none that says something
lines_ahead : (max k : ℕ) (ahead : List ℕ) (found : Found) (p : Looked max k ahead found) → found.line ≡ None → all_but_last (lines_of ahead) ≡ p.lines
lines_ahead max k ahead found p none =
    ap (λ bytes. all_but_last (lines_of bytes)) p.ahead_is ∙ cut-joined p.lines p.after p.whole
    ∙ ap (λ ls. p.lines ++ all_but_last ls) (cut-none p.after (none-open max k ahead found p none)) ∙ append-nil p.lines

-- the bytes after the lines that were passed
pub after_is : (max k : ℕ) (ahead : List ℕ) (found : Found) (p : Looked max k ahead found) → drop (length ahead - found.left) ahead ≡ p.after
after_is max k ahead found p =
    let count : length ahead - found.left ≡ length (text_of_lines p.lines) = omega (arith, p.left_is, ap length p.ahead_is, length-append (text_of_lines p.lines) p.after) in
    ap (λ n. drop n ahead) count ∙ ap (drop (length (text_of_lines p.lines))) p.ahead_is ∙ drop-append_seam (text_of_lines p.lines) p.after

-- the last line was read
pub looked-behind : (max k : ℕ) (ahead last : List ℕ) (found : Found) (line : Option Line) → Looked max k ahead found → found.line ≡ None → last ≡ drop (length ahead - found.left) ahead
    → line_said max false (tokens_of last) ≡ Ok line → LookedBehind max k ahead (record { line = line; at = found.number; number = found.number; left = 0; searched = 0 })
looked-behind max k ahead last found line p none last_is says = record {
  said_is = last_said max k ahead found p none ∙ ap (said_by max (k + length p.lines) false) (sym (last_is ∙ after_is max k ahead found p))
      ∙ said-spoken max (k + length p.lines) false last ∙ ap (said_for (line_number (k + length p.lines))) says
      ∙ ap (λ n. said_for n (Ok line)) (sym p.number_is) ∙ for_line found.number line;
  number_is = p.number_is ∙ ap (λ (ls : List (List ℕ)). line_number (k + length ls)) (sym (lines_ahead max k ahead found p none));
  at_is = refl;
  left_is = refl;
  searched_is = refl;
}

-- the last line has a fault
pub fails-behind : (max k : ℕ) (ahead last : List ℕ) (found : Found) (fault : LineFault) → Looked max k ahead found → found.line ≡ None → last ≡ drop (length ahead - found.left) ahead
    → (fault.line ≡ found.number) × IsLineTold fault.kind (line_said max false (tokens_of last)) → is_silent (tokens_of last) ≡ false → (is_line_no_memory fault.kind ≡ true → IsOk (line_of max false (tokens_of last)))
    → FailsToEnd max k ahead fault
fails-behind max k ahead last found fault p none last_is told loud right =
    let first : slice_get (all_said_from max k ahead) 0 ≡ Some (record { line = fault.line; says = line_of max false (tokens_of last) }) =
    ap (λ (ss : List Said). slice_get ss 0) (last_said max k ahead found p none ∙ ap (said_by max (k + length p.lines) false) (sym (last_is ∙ after_is max k ahead found p))
    ∙ said_loud max (k + length p.lines) false last loud)
    ∙ ap (λ n. Some (record { line = n; says = line_of max false (tokens_of last) })) (sym (told.0 ∙ p.number_is)) in
    record {
      told = λ memory. first ∙ ap (λ (r : Result Line LineFaultKind). Some (record { line = fault.line; says = r })) (loud_fault max false last fault.kind loud (fails_at_end max fault.kind last memory told.1));
      line_is = subst (λ (o : Option Said). IsSaidAt o fault.line) (sym first) refl;
      right = λ memory. subst (λ (o : Option Said). IsSaidRight o) (sym first) (right memory);
    }

pub none-from_test : (o : Option Line) → is_some o ≡ false → o ≡ None
none-from_test None h = refl
none-from_test (Some line) h = cc
