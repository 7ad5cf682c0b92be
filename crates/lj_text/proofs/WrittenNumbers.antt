-- The numbers that written words are, and the tokens of words in a row.
use Rattle.std.proofs.Common.{◌≡◌, ℕ, zero, suc, ◌^◌, ◌<◌, ◌≤◌, true, false, ◌&&◌, cond, List, [], ◌∷◌, ◌++◌, map, length, refl, sym, ap, ◌∙◌, arith, rules}
use Rattle.std.specs.Prelude.{ℤ, pos, negsuc, Option, None, Some, codes, flat_map, ◌==◌, option_map}
use Rattle.std.specs.List.{All, AllByRecursion, list_all, join_with_byte}
use Rattle.std.specs.Char.{is_ascii_digit}
use Rattle.std.specs.Fmt.{decimal, signed_decimal}
use Rattle.std.proofs.lemmas.Bool.{false≢true, eqb-true, and_parts}
use Rattle.std.proofs.lemmas.Bool.Decides.{nat_tests}
use Rattle.std.proofs.lemmas.Fmt.{decimal_nonempty, digits_decimal, digits_value-decimal}
use Rattle.std.proofs.lemmas.List.{map-append}
use Rattle.std.proofs.lemmas.List.Elements.{All-append, All-cons}
use Rattle.std.proofs.lemmas.Str.Parse.{IsNumeralModel, numerals_by_weight}
use Rattle.lj_clause.specs.Literal.{variable_of}
use Rattle.lj_clause.specs.Rat.{HintGroup}
use Rattle.lj_text.specs.Bytes.{decimal_value, digits_value, negative, number_of, is_blank, is_filled, is_line_end, tokens_of}
use Rattle.lj_text.specs.LinesRead.{HasNoLineEnd}
use Rattle.lj_text.specs.StepText.{group_tokens}
use Rattle.lj_text.specs.ReadAgain.{IsClauseNumber, IsLiteralUpTo, IsGroupWithin}
use Rattle.lj_text.proofs.TokenLemmas.{tokens-blank, tokens-last, tokens-first}
use Rattle.lj_text.proofs.WordLemmas.{digits-all, digit_no_blank, number-unsigned, number-negative}
use Rattle.lj_clause.specs.declared.lit.TheConstants.{MAX_VARIABLE}

own : IsNumeralModel (λ ds. list_all is_ascii_digit ds ≡ true) decimal_value
own = numerals_by_weight _ (search rules) decimal_value (search rules)

-- A word is not empty, and has neither a blank nor a line feed.
pub record IsWordText (w : List ℕ) : Type 0 where
  pub filled : is_filled w ≡ true
  pub no_blank : All (λ b. is_blank b ≡ false) w
  pub no_end : HasNoLineEnd w

-- words in a row are its tokens
pub tokens-joined : (ws : List (List ℕ)) → AllByRecursion IsWordText ws → tokens_of (join_with_byte 32 ws) ≡ ws
tokens-joined [] h = refl
tokens-joined (w ∷ []) h = tokens-last w h.0.filled h.0.no_blank
tokens-joined (w ∷ v ∷ vs) h =
    tokens-first w 32 (join_with_byte 32 (v ∷ vs)) h.0.filled h.0.no_blank refl
    ∙ ap (λ ts. w ∷ ts) (tokens-blank 32 (join_with_byte 32 (v ∷ vs)) refl ∙ tokens-joined (v ∷ vs) h.1)

pub no_end-joined : (ws : List (List ℕ)) → AllByRecursion IsWordText ws → HasNoLineEnd (join_with_byte 32 ws)
no_end-joined [] h = λ i d lt. absurd (omega arith)
no_end-joined (w ∷ []) h = h.0.no_end
no_end-joined (w ∷ v ∷ vs) h =
    All-append (λ b. is_line_end b ≡ false) w (32 ∷ join_with_byte 32 (v ∷ vs)) h.0.no_end
    (All-cons (λ b. is_line_end b ≡ false) 32 (join_with_byte 32 (v ∷ vs)) refl (no_end-joined (v ∷ vs) h.1))

digit_no_end : (b : ℕ) → is_ascii_digit b ≡ true → is_line_end b ≡ false
digit_no_end b d = grind (arith, nat_tests)

filled_of : (bs : List ℕ) → 0 < length bs → is_filled bs ≡ true
filled_of [] h = absurd (omega arith)
filled_of (b ∷ bs) h = refl

digits_word : (ds : List ℕ) → is_filled ds ≡ true → list_all is_ascii_digit ds ≡ true → IsWordText ds
digits_word ds f h = record { filled = f; no_blank = digits-all is_blank digit_no_blank ds h; no_end = digits-all is_line_end digit_no_end ds h }

minus_word : (w : List ℕ) → IsWordText w → IsWordText (45 ∷ w)
minus_word w h = record {
  filled = refl;
  no_blank = All-cons (λ b. is_blank b ≡ false) 45 w refl h.no_blank;
  no_end = All-cons (λ b. is_line_end b ≡ false) 45 w refl h.no_end;
}

number_digits : (ds : List ℕ) → is_filled ds ≡ true → list_all is_ascii_digit ds ≡ true → number_of ds ≡ Some (pos (decimal_value ds))
number_digits [] f h = absurd (false≢true f)
number_digits (d ∷ ds) f h = let parts = and_parts (is_ascii_digit d) (list_all is_ascii_digit ds) h in number-unsigned d ds parts.0 parts.1

number_minus : (ds : List ℕ) → is_filled ds ≡ true → list_all is_ascii_digit ds ≡ true → number_of (45 ∷ ds) ≡ negative (decimal_value ds)
number_minus [] f h = absurd (false≢true f)
number_minus (d ∷ ds) f h = let parts = and_parts (is_ascii_digit d) (list_all is_ascii_digit ds) h in number-negative d ds parts.0 parts.1

-- Words, and what each is as a number.
pub record AreWritten (ws : List (List ℕ)) (numbers : List (Option ℤ)) : Type 0 where
  pub texts : AllByRecursion IsWordText ws
  pub numbers_are : map number_of ws ≡ numbers

all_both : (xs ys : List (List ℕ)) → AllByRecursion IsWordText xs → AllByRecursion IsWordText ys → AllByRecursion IsWordText (xs ++ ys)
all_both [] ys h k = k
all_both (x ∷ xs) ys h k = (h.0, all_both xs ys h.1 k)

pub written-append : (xs ys : List (List ℕ)) (ms ns : List (Option ℤ)) → AreWritten xs ms → AreWritten ys ns → AreWritten (xs ++ ys) (ms ++ ns)
written-append xs ys ms ns h k = record {
  texts = all_both xs ys h.texts k.texts;
  numbers_are = map-append number_of xs ys ∙ ap (λ t. t ++ map number_of ys) h.numbers_are ∙ ap (λ t. ms ++ t) k.numbers_are;
}

written-more : (w : List ℕ) (ws : List (List ℕ)) (n : Option ℤ) (ns : List (Option ℤ)) → IsWordText w → number_of w ≡ n → AreWritten ws ns → AreWritten (w ∷ ws) (n ∷ ns)
written-more w ws n ns h e k = record { texts = (h, k.texts); numbers_are = ap (λ m. m ∷ map number_of ws) e ∙ ap (λ t. n ∷ t) k.numbers_are }

written-none : AreWritten [] []
written-none = record { texts = tt; numbers_are = refl }

decimal_filled : (n : ℕ) → n < 2 ^ 64 → is_filled (decimal n) ≡ true
decimal_filled n h = filled_of (decimal n) (decimal_nonempty n h)

pub decimal-token_number : (n : ℕ) → n < 2 ^ 64 → IsWordText (decimal n)
decimal-token_number n h = digits_word (decimal n) (decimal_filled n h) (digits_decimal own n h)

pub number-decimal : (n : ℕ) → n < 2 ^ 64 → number_of (decimal n) ≡ Some (pos n)
number-decimal n h = number_digits (decimal n) (decimal_filled n h) (digits_decimal own n h) ∙ ap (λ v. Some (pos v)) (digits_value-decimal own n h)

number_negated : (k : ℕ) → suc k < 2 ^ 64 → number_of (45 ∷ decimal (suc k)) ≡ Some (negsuc k)
number_negated k h = number_minus (decimal (suc k)) (decimal_filled (suc k) h) (digits_decimal own (suc k) h) ∙ ap negative (digits_value-decimal own (suc k) h)

literal_word : (l : ℤ) → variable_of l < 2 ^ 64 → IsWordText (signed_decimal l)
literal_word (pos n) h = decimal-token_number n h
literal_word (negsuc k) h = minus_word (decimal (suc k)) (decimal-token_number (suc k) h)

number_literal : (l : ℤ) → variable_of l < 2 ^ 64 → number_of (signed_decimal l) ≡ Some l
number_literal (pos n) h = number-decimal n h
number_literal (negsuc k) h = number_negated k h

-- numbers of clauses
abbrev pub as_numbers : List ℕ → List (Option ℤ)
as_numbers ns = map (λ n. Some (pos n)) ns

pub written-numbers : (ns : List ℕ) → AllByRecursion IsClauseNumber ns → AreWritten (map decimal ns) (as_numbers ns)
written-numbers [] h = written-none
written-numbers (n ∷ ns) h =
    let small : n < 2 ^ 64 = omega (arith, h.0.1) in
    written-more (decimal n) (map decimal ns) (Some (pos n)) (as_numbers ns) (decimal-token_number n small) (number-decimal n small) (written-numbers ns h.1)

pub written-literals : (most : ℕ) (ls : List ℤ) → most ≤ MAX_VARIABLE → AllByRecursion (IsLiteralUpTo most) ls → AreWritten (map signed_decimal ls) (map Some ls)
written-literals most [] le h = written-none
written-literals most (l ∷ ls) le h =
    let small : variable_of l < 2 ^ 64 = omega (arith, h.0.1) in
    written-more (signed_decimal l) (map signed_decimal ls) (Some l) (map Some ls) (literal_word l small) (number_literal l small) (written-literals most ls le h.1)

-- a candidate as it is written
abbrev pub negated : ℕ → ℤ
negated zero = pos 0
negated (suc k) = negsuc k

abbrev pub group_numbers : HintGroup → List (Option ℤ)
group_numbers g = Some (negated g.candidate) ∷ as_numbers g.hints

written_candidate : (n : ℕ) → IsClauseNumber n → number_of (45 ∷ decimal n) ≡ Some (negated n)
written_candidate zero h = absurd (omega (arith, h.0))
written_candidate (suc k) h = number_negated k (omega (arith, h.1))

pub written-groups : (gs : List HintGroup) → AllByRecursion IsGroupWithin gs → AreWritten (flat_map group_tokens gs) (flat_map group_numbers gs)
written-groups [] h = written-none
written-groups (g ∷ gs) h =
    let small : g.candidate < 2 ^ 64 = omega (arith, h.0.0.1) in
    written-append (group_tokens g) (flat_map group_tokens gs) (group_numbers g) (flat_map group_numbers gs)
    (written-more (45 ∷ decimal g.candidate) (map decimal g.hints) (Some (negated g.candidate)) (as_numbers g.hints) (minus_word (decimal g.candidate) (decimal-token_number g.candidate small)) (written_candidate g.candidate h.0.0) (written-numbers g.hints h.0.1))
    (written-groups gs h.1)

pub letter-token_number : (b : ℕ) → is_blank b ≡ false → is_line_end b ≡ false → IsWordText (b ∷ [])
letter-token_number b h k = record {
  filled = refl;
  no_blank = All-cons (λ b. is_blank b ≡ false) b [] h (λ i d lt. absurd (omega arith));
  no_end = All-cons (λ b. is_line_end b ≡ false) b [] k (λ i d lt. absurd (omega arith));
}

pub written-zero : (ws : List (List ℕ)) (ns : List (Option ℤ)) → AreWritten ws ns → AreWritten (codes "0" ∷ ws) (Some (pos 0) ∷ ns)
written-zero ws ns h = written-more (codes "0") ws (Some (pos 0)) ns (letter-token_number 48 refl refl) refl h

pub written-end : AreWritten (codes "0" ∷ []) (Some (pos 0) ∷ [])
written-end = written-zero [] [] written-none

-- a token that is a number begins with no letter
no_number : (letter : ℕ) (bs : List ℕ) → is_ascii_digit letter ≡ false → (letter == 45) ≡ false → number_of (letter ∷ bs) ≡ None
no_number letter bs digit minus =
    ap (λ b. cond b (number_of (45 ∷ bs)) (option_map pos (digits_value (letter ∷ bs)))) minus
    ∙ ap (λ b. option_map pos (cond (true && (b && list_all is_ascii_digit bs)) (Some (decimal_value (letter ∷ bs))) None)) digit

pub no-letter : (letter b : ℕ) (bs : List ℕ) (z : ℤ) → is_ascii_digit letter ≡ false → (letter == 45) ≡ false → number_of (b ∷ bs) ≡ Some z → (b == letter) ≡ false
no-letter letter b bs z digit minus is =
    elim (b == letter) as (λ t. (b == letter) ≡ t → t ≡ false) [
      | true ↦ λ e. absurd (wrong (sym (ap (λ c. number_of (c ∷ bs)) (eqb-true b letter e)) ∙ is))
      | false ↦ λ e. refl
    ] refl
  where
    wrong : number_of (letter ∷ bs) ≡ Some z → ⊥
    wrong e = let none : number_of (letter ∷ bs) ≡ None = no_number letter bs digit minus in cc
