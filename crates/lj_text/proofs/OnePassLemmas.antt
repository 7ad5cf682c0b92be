-- A line that is read in one pass, from its parts.
use Rattle.std.proofs.Common.{◌≡◌, ℕ, ◌-◌, ◌≤◌, ◌≢◌, ◌==◌, true, false, cond, List, [], ◌∷◌, ◌++◌, length, get_or, take, drop, map, refl, sym, ap, ◌∙◌, subst, append_assoc, arith}
use Rattle.std.proofs.lemmas.Bool.Decides.{nat_tests}
use Rattle.std.proofs.lemmas.List.{append-nil, take_all}
use Rattle.std.proofs.lemmas.List.Elements.{All-cons}
use Rattle.std.proofs.lemmas.List.Splits.{slice_split-cons_no}
use Rattle.std.specs.List.{filter, onto_first, slice_split}
use Rattle.std.specs.Prelude.{Option, Some, None, Result, Ok, Err, ℤ, pos}
use Rattle.lj_clause.specs.Rat.{HintGroup}
use Rattle.lj_clause.specs.Lemma.{lemma_of}
use Rattle.lj_text.specs.declared.line.Line.{Line}
use Rattle.lj_text.specs.declared.line.Line.TheVariants.{Add}
use Rattle.lj_text.specs.declared.lines.fault.LineFaultKind.{LineFaultKind}
use Rattle.lj_text.specs.Bytes.{begins, is_blank, is_filled, number_of, tokens_of}
use Rattle.lj_text.specs.declared.line.Addition.{Addition}
use Rattle.lj_text.specs.Lines.{addition_of, after_first, after_number, after_zero, deletion_of, greatest, hints_of, import_of, is_letter, line_of, literals_then, numbers_of, then_read, with_read}
use Rattle.lj_text.specs.LinesRead.{HasNoLineEnd}
use Rattle.lj_text.specs.inner.LineReading.{behind_hints, behind_literals, behind_numbers, line_said, token_numbers}
use Rattle.lj_text.specs.inner.ShortNumbers.{AreLiteralsAhead, AreNumbersAhead, BeginsByLine, BeginsNumber, IsTokenAhead}
use Rattle.lj_text.proofs.ShortLemmas.{before-more, none-in-both}
use Rattle.lj_text.proofs.TokenLemmas.{tokens-blank, tokens-first}

none-ends : HasNoLineEnd []
none-ends = λ k d lt. absurd (omega arith)

-- two bytes and what follows them
pub two-ahead : (bytes : List ℕ) (a b : ℕ) → 2 ≤ length bytes → get_or bytes 0 0 ≡ a → get_or bytes 1 0 ≡ b → bytes ≡ a ∷ b ∷ take (length bytes - 2) (drop 2 bytes)
two-ahead [] a b two first second = absurd (omega arith)
two-ahead (x ∷ []) a b two first second = absurd (omega arith)
two-ahead (x ∷ y ∷ bytes) a b two first second =
    ap (λ n. n ∷ y ∷ bytes) first ∙ ap (λ n. a ∷ n ∷ bytes) second ∙ ap (λ r. a ∷ b ∷ r) (sym (take_all _ bytes (omega arith)))

-- A line of a part that was read and the rest of it.
joined : (bytes front rest tail after : List ℕ) → bytes ≡ front ++ rest → rest ≡ tail ++ 10 ∷ after → bytes ≡ (front ++ tail) ++ 10 ∷ after
joined bytes front rest tail after whole cut = whole ∙ ap (λ r. front ++ r) cut ∙ sym (append_assoc front tail (10 ∷ after))

hints-alone : (read : Result (List ℕ × List HintGroup) LineFaultKind) → behind_hints [] read ≡ read
hints-alone (Ok r) = refl
hints-alone (Err kind) = refl

numbers-alone : (read : Result (List ℕ) LineFaultKind) → behind_numbers [] read ≡ read
numbers-alone (Ok ns) = refl
numbers-alone (Err kind) = refl

literals-alone : (read : Result (List ℤ × List (Option ℤ)) LineFaultKind) → behind_literals [] read ≡ read
literals-alone (Ok r) = refl
literals-alone (Err kind) = refl

-- hints, and then the rest of their line
pub proof-line : (old bytes new rest tail after : List ℕ) (hints : List ℕ) (groups : List HintGroup) → old ≡ [] → AreNumbersAhead old bytes new rest → rest ≡ tail ++ 10 ∷ after → HasNoLineEnd tail
    → behind_hints new (hints_of true (token_numbers tail)) ≡ Ok (hints, groups) → BeginsByLine (λ line. hints_of true (token_numbers line) ≡ Ok (hints, groups)) bytes after
proof-line old bytes new rest tail after hints groups none n cut unended read = record {
  line = n.front ++ tail;
  bytes_is = joined bytes n.front rest tail after n.bytes_is cut;
  none_within = none-in-both n.front tail n.none_within unended;
  right = sym (hints-alone (hints_of true (token_numbers (n.front ++ tail)))) ∙ ap (λ o. behind_hints o (hints_of true (token_numbers (n.front ++ tail)))) (sym none) ∙ sym ((n.read tail).hints true) ∙ read;
}

-- hints, and then the closing 0
pub proof-closed : (old bytes new rest after : List ℕ) (groups : List HintGroup) → old ≡ [] → groups ≡ [] → AreNumbersAhead old bytes new rest → rest ≡ 48 ∷ 10 ∷ after
    → BeginsByLine (λ line. hints_of true (token_numbers line) ≡ Ok (new, groups)) bytes after
proof-closed old bytes new rest after groups none empty n cut =
    proof-line old bytes new rest (48 ∷ []) after new groups none n cut (before-more 48 [] refl none-ends)
    (ap (λ hs. Ok (hs, [])) (append-nil new) ∙ ap (λ gs. Ok (new, gs)) (sym empty))

-- numbers, and then the rest of their line
pub numbers-line : (old bytes new rest tail after : List ℕ) (numbers : List ℕ) → old ≡ [] → AreNumbersAhead old bytes new rest → rest ≡ tail ++ 10 ∷ after → HasNoLineEnd tail
    → behind_numbers new (numbers_of true (token_numbers tail)) ≡ Ok numbers → BeginsByLine (λ line. numbers_of true (token_numbers line) ≡ Ok numbers) bytes after
numbers-line old bytes new rest tail after numbers none n cut unended read = record {
  line = n.front ++ tail;
  bytes_is = joined bytes n.front rest tail after n.bytes_is cut;
  none_within = none-in-both n.front tail n.none_within unended;
  right = sym (numbers-alone (numbers_of true (token_numbers (n.front ++ tail)))) ∙ ap (λ o. behind_numbers o (numbers_of true (token_numbers (n.front ++ tail)))) (sym none) ∙ sym ((n.read tail).numbers true) ∙ read;
}

pub numbers-closed : (old bytes new rest after : List ℕ) → old ≡ [] → AreNumbersAhead old bytes new rest → rest ≡ 48 ∷ 10 ∷ after → BeginsByLine (λ line. numbers_of true (token_numbers line) ≡ Ok new) bytes after
numbers-closed old bytes new rest after none n cut =
    numbers-line old bytes new rest (48 ∷ []) after new none n cut (before-more 48 [] refl none-ends) (ap (λ ns. Ok ns) (append-nil new))

-- a token of one byte, and a space
byte-token : (b : ℕ) (tail : List ℕ) → is_blank b ≡ false → tokens_of (b ∷ 32 ∷ tail) ≡ (b ∷ []) ∷ tokens_of tail
byte-token b tail some =
    tokens-first (b ∷ []) 32 tail refl (All-cons (λ x. is_blank x ≡ false) b [] some (λ k d lt. absurd (omega arith))) refl ∙ ap (λ ts. (b ∷ []) ∷ ts) (tokens-blank 32 tail refl)

-- literals, their 0, and then the hints and groups
pub addition-line : (max number : ℕ) (old : List ℤ) (bytes : List ℕ) (lits : List ℤ) (rest proof after : List ℕ) (position : Addition) → old ≡ [] → AreLiteralsAhead max old bytes lits rest
    → rest ≡ 48 ∷ 32 ∷ proof → BeginsByLine (λ line. hints_of true (token_numbers line) ≡ Ok (position.hints, position.groups)) proof after → position.number ≡ number → position.lemma ≡ lemma_of lits
    → BeginsByLine (λ line. addition_of max true number (token_numbers line) ≡ Ok (Add position)) bytes after
addition-line max number old bytes lits rest proof after position none n zero_ahead p under is =
    let tail : List ℕ = 48 ∷ 32 ∷ p.line in
    let values : token_numbers tail ≡ Some (pos 0) ∷ token_numbers p.line = ap (λ ts. map number_of ts) (byte-token 48 p.line refl) in
    let literals : literals_then max true (token_numbers (n.front ++ tail)) ≡ Ok (lits, token_numbers p.line) =
    sym (literals-alone (literals_then max true (token_numbers (n.front ++ tail)))) ∙ ap (λ o. behind_literals o (literals_then max true (token_numbers (n.front ++ tail)))) (sym none) ∙ sym (n.read true tail)
    ∙ ap (λ ws. behind_literals lits (literals_then max true ws)) values ∙ ap (λ ls. Ok (ls, token_numbers p.line)) (append-nil lits) in
    record {
      line = n.front ++ tail;
      bytes_is = joined bytes n.front rest tail after n.bytes_is (zero_ahead ∙ ap (λ r. 48 ∷ 32 ∷ r) p.bytes_is);
      none_within = none-in-both n.front tail n.none_within (before-more 48 (32 ∷ p.line) refl (before-more 32 p.line refl p.none_within));
      right = ap (λ (r : Result (List ℤ × List (Option ℤ)) LineFaultKind). then_read r (λ r. with_read (λ h. Add (record { number = number; lemma = lemma_of r.0; hints = h.0; groups = h.1 })) (hints_of true r.1))) literals
          ∙ ap (λ (h : Result (List ℕ × List HintGroup) LineFaultKind). with_read (λ h. Add (record { number = number; lemma = lemma_of lits; hints = h.0; groups = h.1 })) h) p.right
          ∙ ap (λ l. Ok (Add (record { number = number; lemma = l; hints = position.hints; groups = position.groups }))) (sym is)
          ∙ ap (λ k. Ok (Add (record { number = k; lemma = position.lemma; hints = position.hints; groups = position.groups }))) (sym under);
    }

-- a number begins with no `c`
no_comment : (token : List ℕ) (n : ℤ) → number_of token ≡ Some n → begins 99 token ≡ false
no_comment [] n is = refl
no_comment (b ∷ bs) n is =
    elim (b == 99) as (λ t. b == 99 ≡ t → begins 99 (b ∷ bs) ≡ false) [
      | false ↦ λ e. e
      | true ↦ λ e. absurd (not_number b bs n (grind (arith, nat_tests)) is)
    ] refl
  where
    not_number : (b : ℕ) (bs : List ℕ) (n : ℤ) → b ≡ 99 → number_of (b ∷ bs) ≡ Some n → ⊥
    not_number b bs n c is = let none : number_of (99 ∷ bs) ≡ Some n = ap (λ x. number_of (x ∷ bs)) (sym c) ∙ is in cc

said-first : (max n : ℕ) (token : List ℕ) (tokens : List (List ℕ)) (line : Line) → number_of token ≡ Some (pos n) → n ≤ greatest → after_number max true n tokens ≡ Ok line → line_said max true (token ∷ tokens) ≡ Ok (Some line)
said-first max n token tokens line is few read =
    ap (λ t. cond t (Ok None) (with_read (λ (l : Line). Some l) (line_of max true (token ∷ tokens)))) (no_comment token (pos n) is)
    ∙ ap (λ (o : Option ℤ). with_read (λ (l : Line). Some l) (after_first max true o tokens)) is
    ∙ ap (λ (r : Result Line LineFaultKind). with_read (λ (l : Line). Some l) r) (number-first max n tokens few)
    ∙ ap (λ (r : Result Line LineFaultKind). with_read (λ (l : Line). Some l) r) read
  where
    number-first : (max n : ℕ) (tokens : List (List ℕ)) → n ≤ greatest → after_first max true (Some (pos n)) tokens ≡ after_number max true n tokens
    number-first max n tokens few = grind (arith, nat_tests)

-- a number, a `d`, and then numbers
pub deletion-said : (max number : ℕ) (bytes rest numbers after : List ℕ) (line : Line) → IsTokenAhead bytes (pos number) rest → number ≤ greatest → rest ≡ 100 ∷ 32 ∷ numbers
    → BeginsByLine (λ line'. deletion_of true (token_numbers line') ≡ Ok line) numbers after → BeginsByLine (λ line'. line_said max true (tokens_of line') ≡ Ok (Some line)) bytes after
deletion-said max number bytes rest numbers after line t few letter p =
    let tail : List ℕ = 100 ∷ 32 ∷ p.line in
    record {
      line = t.front ++ tail;
      bytes_is = joined bytes t.front rest tail after t.bytes_is (letter ∙ ap (λ r. 100 ∷ 32 ∷ r) p.bytes_is);
      none_within = none-in-both t.front tail t.none_within (before-more 100 (32 ∷ p.line) refl (before-more 32 p.line refl p.none_within));
      right = ap (λ ts. line_said max true ts) (t.tokens_are tail ∙ ap (λ ts. t.token ∷ ts) (byte-token 100 p.line refl)) ∙ said-first max number t.token ((100 ∷ []) ∷ tokens_of p.line) line t.number_is few p.right;
    }

-- the first token of bytes that begin with no blank
first-token : (b : ℕ) (bs : List ℕ) → is_blank b ≡ false → (t : List ℕ) × (ts : List (List ℕ)) × (tokens_of (b ∷ bs) ≡ (b ∷ t) ∷ ts)
first-token b bs some = by-parts (slice_split is_blank bs) (slice_split-cons_no is_blank b bs some)
  where
    by-parts : (parts : List (List ℕ)) → slice_split is_blank (b ∷ bs) ≡ onto_first b parts → (t : List ℕ) × (ts : List (List ℕ)) × (tokens_of (b ∷ bs) ≡ (b ∷ t) ∷ ts)
    by-parts [] is = ([], [], ap (filter is_filled) is)
    by-parts (t ∷ ts) is = (t, filter is_filled ts, ap (filter is_filled) is)

no_letter : (letter b : ℕ) (t : List ℕ) → b ≢ letter → is_letter letter (b ∷ t) ≡ false
no_letter letter b [] other = grind (arith, nat_tests)
no_letter letter b (c ∷ t) other = refl

-- what follows a number that isn't 0, where no letter does
addition-after : (max n : ℕ) (b : ℕ) (bs : List ℕ) → n ≢ 0 → BeginsNumber b → after_number max true n (tokens_of (b ∷ bs)) ≡ addition_of max true n (token_numbers (b ∷ bs))
addition-after max n b bs some first =
    let f = first-token b bs first.no_blank in
    let tokens : List (List ℕ) = (b ∷ f.0) ∷ f.1 in
    ap (after_number max true n) f.2
    ∙ ap (λ t. cond t (deletion_of true (map number_of f.1)) (cond (n == 0) (Err (after_zero max (b ∷ f.0))) (cond (is_letter 105 (b ∷ f.0)) (import_of max true n (map number_of f.1)) (addition_of max true n (map number_of tokens))))) (no_letter 100 b f.0 first.no_d)
    ∙ ap (λ t. cond t (Err (after_zero max (b ∷ f.0))) (cond (is_letter 105 (b ∷ f.0)) (import_of max true n (map number_of f.1)) (addition_of max true n (map number_of tokens)))) (not_zero n some)
    ∙ ap (λ t. cond t (import_of max true n (map number_of f.1)) (addition_of max true n (map number_of tokens))) (no_letter 105 b f.0 first.no_i)
    ∙ ap (λ ts. addition_of max true n (map number_of ts)) (sym f.2)
  where
    not_zero : (n : ℕ) → n ≢ 0 → (n == 0) ≡ false
    not_zero n some = grind (arith, nat_tests)

-- a number, and then an addition
pub addition-said : (max number : ℕ) (bytes rest after : List ℕ) (line : Line) → IsTokenAhead bytes (pos number) rest → number ≤ greatest → number ≢ 0 → BeginsNumber (get_or rest 0 0)
    → BeginsByLine (λ line'. addition_of max true number (token_numbers line') ≡ Ok line) rest after → BeginsByLine (λ line'. line_said max true (tokens_of line') ≡ Ok (Some line)) bytes after
addition-said max number bytes rest after line t few some first p =
    record {
      line = t.front ++ p.line;
      bytes_is = joined bytes t.front rest p.line after t.bytes_is p.bytes_is;
      none_within = none-in-both t.front p.line t.none_within p.none_within;
      right = ap (λ ts. line_said max true ts) (t.tokens_are p.line) ∙ said-first max number t.token (tokens_of p.line) line t.number_is few (by-front p.line p.bytes_is ∙ p.right);
    }
  where
    by-front : (front : List ℕ) → rest ≡ front ++ 10 ∷ after → after_number max true number (tokens_of front) ≡ addition_of max true number (token_numbers front)
    by-front [] is = absurd (first.no_end (ap (λ r. get_or r 0 0) is))
    by-front (b ∷ bs) is = addition-after max number b bs some (subst BeginsNumber (ap (λ r. get_or r 0 0) is) first)
