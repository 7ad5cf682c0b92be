-- The tokens at the front of a line as numbers.
use Rattle.std.proofs.Common.{◌≡◌, Bool, ℕ, zero, suc, ◌+◌, ◌-◌, ◌*◌, ◌^◌, ◌<◌, ◌≤◌, ◌==◌, true, false, ◌&&◌, cond, List, [], ◌∷◌, ◌++◌, length, get_or, take, drop, refl, sym, ap, ◌∙◌, subst, inl, inr, append_assoc, arith, length-append, length-take, length-drop}
use Rattle.std.proofs.lemmas.Bool.Decides.{nat_tests}
use Rattle.std.proofs.lemmas.List.{append-nil, take_all, nil_from_length}
use Rattle.std.proofs.lemmas.List.Elements.{All-cons}
use Rattle.std.proofs.lemmas.List.Folds.{list_all-append}
use Rattle.std.proofs.Math.Nat.{pow-succ'}
use Rattle.std.specs.List.{All, list_all}
use Rattle.std.specs.Char.{is_ascii_digit}
use Rattle.std.specs.Prelude.{Option, Some, None, ℤ, pos, negsuc, option_map, option_and_then}
use Rattle.lj_text.specs.declared.bytes.digits.TokenNumber.{TokenNumber}
use Rattle.lj_text.specs.declared.bytes.digits.TokenNumber.TheVariants as values
use Rattle.lj_text.specs.Bytes.{is_blank, is_filled, tokens_of, decimal_value, digits_value, negative, number_of}
use Rattle.lj_text.specs.Lines.{greatest}
use Rattle.lj_text.specs.inner.TokenNumbers.{BeginsToken, EndsToken, IsNumberAhead, IsTokenNumber}
use Rattle.lj_text.proofs.TokenLemmas.{tokens-last, tokens-first, tokens-blank}

-- Digits that were read behind the first one, and what is left.
pub record DigitsRead (first : ℕ) (bytes : List ℕ) (value : ℕ) (rest : List ℕ) : Type 0 where
  pub digits : List ℕ
  pub are_digits : list_all is_ascii_digit digits ≡ true
  pub value_is : value ≡ first * 10 ^ length digits + decimal_value digits
  pub small : value ≤ greatest
  pub bytes_is : bytes ≡ digits ++ rest

pub digits-none : (first : ℕ) (bytes : List ℕ) → first < 10 → DigitsRead first bytes first bytes
digits-none first bytes h = record { digits = []; are_digits = refl; value_is = omega arith; small = omega arith; bytes_is = refl }

one_more : (ds : List ℕ) (b : ℕ) → length (ds ++ b ∷ []) ≡ suc (length ds)
one_more ds b = omega (arith, length-append ds (b ∷ []))

pub decimal_value-push : (ds : List ℕ) (b : ℕ) → decimal_value (ds ++ b ∷ []) ≡ 10 * decimal_value ds + (b - 48)
decimal_value-push [] b = omega arith
decimal_value-push (d ∷ ds) b =
    let power : 10 ^ length (ds ++ b ∷ []) ≡ 10 * 10 ^ length ds = ap (λ n. 10 ^ n) (one_more ds b) ∙ pow-succ' 10 (length ds) in
    let P : ℕ → Type 0 = λ p. (d - 48) * p + decimal_value (ds ++ b ∷ []) ≡ 10 * ((d - 48) * 10 ^ length ds + decimal_value ds) + (b - 48) in
    subst P (sym power) (omega (arith, decimal_value-push ds b))

digits-more : (first : ℕ) (bytes : List ℕ) (value next : ℕ) (b : ℕ) (after : List ℕ) → is_ascii_digit b ≡ true → next ≡ 10 * value + (b - 48) → next ≤ greatest
    → DigitsRead first bytes value (b ∷ after) → DigitsRead first bytes next after
digits-more first bytes value next b after d e small so_far =
    let ds : List ℕ = so_far.digits in
    let power : 10 ^ length (ds ++ b ∷ []) ≡ 10 * 10 ^ length ds = ap (λ n. 10 ^ n) (one_more ds b) ∙ pow-succ' 10 (length ds) in
    let P : ℕ → Type 0 = λ p. next ≡ first * p + decimal_value (ds ++ b ∷ []) in
    record {
      digits = ds ++ b ∷ [];
      are_digits = list_all-append is_ascii_digit ds (b ∷ []) ∙ ap (λ t. t && list_all is_ascii_digit (b ∷ [])) so_far.are_digits ∙ ap (λ t. t && true) d;
      value_is = subst P (sym power) (omega (arith, e, so_far.value_is, decimal_value-push ds b));
      small = small;
      bytes_is = so_far.bytes_is ∙ sym (append_assoc ds (b ∷ []) after);
    }

pub digits-step : (first : ℕ) (bytes : List ℕ) (value next : ℕ) (rest : List ℕ) → 1 ≤ length rest → is_ascii_digit (get_or rest 0 0) ≡ true → next ≡ 10 * value + (get_or rest 0 0 - 48) → next ≤ greatest
    → DigitsRead first bytes value rest → DigitsRead first bytes next (take (length rest - 1) (drop 1 rest))
digits-step first bytes value next [] p d e small so_far = absurd (omega arith)
digits-step first bytes value next (b ∷ rest) p d e small so_far =
    let same : take (length (b ∷ rest) - 1) rest ≡ rest = take_all _ rest (omega arith) in
    let P : List ℕ → Type 0 = λ r. DigitsRead first bytes next r in
    subst P (sym same) (digits-more first bytes value next b rest d e small so_far)

pub length-rest : (rest : List ℕ) (n : ℕ) → length rest ≤ n → length (take (length rest - 1) (drop 1 rest)) ≤ n
length-rest rest n h = omega (arith, h, length-take (length rest - 1) (drop 1 rest), length-drop 1 rest)

pub digits-end : (first : ℕ) (bytes : List ℕ) (value : ℕ) (rest : List ℕ) → length rest < 1 → DigitsRead first bytes value rest → IsNumberAhead first bytes value rest
digits-end first bytes value rest h so_far =
    let none : rest ≡ [] = nil_from_length rest (omega arith) in
    record {
      digits = so_far.digits;
      are_digits = so_far.are_digits;
      value_is = so_far.value_is;
      small = so_far.small;
      ends = inl (so_far.bytes_is ∙ ap (λ r. so_far.digits ++ r) none ∙ append-nil so_far.digits, none);
    }

pub digits-blank : (first : ℕ) (bytes : List ℕ) (value : ℕ) (rest : List ℕ) → 1 ≤ length rest → is_blank (get_or rest 0 0) ≡ true → DigitsRead first bytes value rest
    → IsNumberAhead first bytes value (take (length rest - 1) (drop 1 rest))
digits-blank first bytes value [] p blank so_far = absurd (omega arith)
digits-blank first bytes value (b ∷ rest) p blank so_far =
    let same : take (length (b ∷ rest) - 1) rest ≡ rest = take_all _ rest (omega arith) in
    record {
      digits = so_far.digits;
      are_digits = so_far.are_digits;
      value_is = so_far.value_is;
      small = so_far.small;
      ends = inr (b, blank, so_far.bytes_is ∙ ap (λ r. so_far.digits ++ b ∷ r) (sym same));
    }

-- no digit is a blank
pub digit_no_blank : (b : ℕ) → is_ascii_digit b ≡ true → is_blank b ≡ false
digit_no_blank b d = grind (arith, nat_tests)

pub digits-all : (p : ℕ → Bool) → ((b : ℕ) → is_ascii_digit b ≡ true → p b ≡ false) → (ds : List ℕ) → list_all is_ascii_digit ds ≡ true → All (λ b. p b ≡ false) ds
digits-all p none [] h = λ k d lt. absurd (omega arith)
digits-all p none (b ∷ ds) h =
    elim (is_ascii_digit b) as (λ t. is_ascii_digit b ≡ t → All (λ b. p b ≡ false) (b ∷ ds)) [
      | true ↦ λ e. All-cons (λ b. p b ≡ false) b ds (none b e) (digits-all p none ds (ap (λ t. t && list_all is_ascii_digit ds) (sym e) ∙ h))
      | false ↦ λ e. absurd (let wrong : false ≡ true = ap (λ t. t && list_all is_ascii_digit ds) (sym e) ∙ h in cc)
    ] refl

pub digits_no_blanks : (ds : List ℕ) → list_all is_ascii_digit ds ≡ true → All (λ b. is_blank b ≡ false) ds
digits_no_blanks ds h = digits-all is_blank digit_no_blank ds h

filled-front : (b : ℕ) (front ds : List ℕ) → is_filled ((b ∷ front) ++ ds) ≡ true
filled-front b front ds = refl

token-ended : (b : ℕ) (front digits bytes after : List ℕ) → All (λ b. is_blank b ≡ false) ((b ∷ front) ++ digits) → EndsToken bytes digits after
    → tokens_of ((b ∷ front) ++ bytes) ≡ ((b ∷ front) ++ digits) ∷ tokens_of after
token-ended b front digits bytes after none ends =
    elim ends [
      | inl end ↦
          ap (λ r. tokens_of ((b ∷ front) ++ r)) end.0 ∙ tokens-last ((b ∷ front) ++ digits) refl none ∙ ap (λ r. ((b ∷ front) ++ digits) ∷ tokens_of r) (sym end.1)
      | inr cut ↦
          ap (λ r. tokens_of ((b ∷ front) ++ r)) cut.2 ∙ ap tokens_of (sym (append_assoc (b ∷ front) digits (cut.0 ∷ after)))
          ∙ tokens-first ((b ∷ front) ++ digits) cut.0 after refl none cut.1 ∙ ap (λ ts. ((b ∷ front) ++ digits) ∷ ts) (tokens-blank cut.0 after cut.1)
    ]

digits_value-of : (d : ℕ) (ds : List ℕ) → is_ascii_digit d ≡ true → list_all is_ascii_digit ds ≡ true → digits_value (d ∷ ds) ≡ Some (decimal_value (d ∷ ds))
digits_value-of d ds one all =
    let both : list_all is_ascii_digit (d ∷ ds) ≡ true = ap (λ t. t && list_all is_ascii_digit ds) one ∙ all in
    ap (λ t. cond (true && t) (Some (decimal_value (d ∷ ds))) None) both

digit_no_minus : (d : ℕ) → is_ascii_digit d ≡ true → (d == 45) ≡ false
digit_no_minus d h = grind (arith, nat_tests)

pub number-unsigned : (d : ℕ) (ds : List ℕ) → is_ascii_digit d ≡ true → list_all is_ascii_digit ds ≡ true → number_of (d ∷ ds) ≡ Some (pos (decimal_value (d ∷ ds)))
number-unsigned d ds one all =
    ap (λ t. cond t (option_and_then negative (digits_value ds)) (option_map pos (digits_value (d ∷ ds)))) (digit_no_minus d one)
    ∙ ap (option_map pos) (digits_value-of d ds one all)

pub number-negative : (d : ℕ) (ds : List ℕ) → is_ascii_digit d ≡ true → list_all is_ascii_digit ds ≡ true → number_of (45 ∷ d ∷ ds) ≡ negative (decimal_value (d ∷ ds))
number-negative d ds one all = ap (option_and_then negative) (digits_value-of d ds one all)

-- a number without a sign
pub unsigned-ahead : (d : ℕ) (bytes : List ℕ) (value : ℕ) (after : List ℕ) → is_ascii_digit d ≡ true → IsNumberAhead (d - 48) bytes value after
    → (token : List ℕ) × (tokens_of (d ∷ bytes) ≡ token ∷ tokens_of after) × (number_of token ≡ Some (pos value))
unsigned-ahead d bytes value after one n =
    let none : All (λ b. is_blank b ≡ false) (d ∷ n.digits) = All-cons (λ b. is_blank b ≡ false) d n.digits (digit_no_blank d one) (digits_no_blanks n.digits n.are_digits) in
    (d ∷ n.digits, token-ended d [] n.digits bytes after none n.ends, number-unsigned d n.digits one n.are_digits ∙ ap (λ v. Some (pos v)) (sym n.value_is))

-- a negative number
pub negative-ahead : (d : ℕ) (bytes : List ℕ) (value : ℕ) (after : List ℕ) → is_ascii_digit d ≡ true → IsNumberAhead (d - 48) bytes value after
    → (token : List ℕ) × (tokens_of (45 ∷ d ∷ bytes) ≡ token ∷ tokens_of after) × (number_of token ≡ negative value)
negative-ahead d bytes value after one n =
    let none : All (λ b. is_blank b ≡ false) (d ∷ n.digits) = All-cons (λ b. is_blank b ≡ false) d n.digits (digit_no_blank d one) (digits_no_blanks n.digits n.are_digits) in
    let all : All (λ b. is_blank b ≡ false) (45 ∷ d ∷ n.digits) = All-cons (λ b. is_blank b ≡ false) 45 (d ∷ n.digits) refl none in
    (45 ∷ d ∷ n.digits, token-ended 45 (d ∷ []) n.digits bytes after all n.ends, number-negative d n.digits one n.are_digits ∙ ap negative (sym n.value_is))

word_at : (bytes after : List ℕ) (token_number : TokenNumber) (number : Option ℤ) → IsTokenNumber token_number number → (token : List ℕ) × (tokens_of bytes ≡ token ∷ tokens_of after) × (number_of token ≡ number) → BeginsToken bytes token_number after
word_at bytes after token_number number is t = let P : Option ℤ → Type 0 = λ o. IsTokenNumber token_number o in (t.0, t.1, subst P (sym t.2) is)

pub token_number-zero : (d : ℕ) (bytes : List ℕ) (value : ℕ) (after : List ℕ) → is_ascii_digit d ≡ true → IsNumberAhead (d - 48) bytes value after → value ≡ 0 → BeginsToken (d ∷ bytes) values.Zero after
token_number-zero d bytes value after one n e = word_at (d ∷ bytes) after values.Zero (Some (pos value)) (ap (λ v. Some (pos v)) e) (unsigned-ahead d bytes value after one n)

pub token_number-positive : (d : ℕ) (bytes : List ℕ) (value : ℕ) (after : List ℕ) → is_ascii_digit d ≡ true → IsNumberAhead (d - 48) bytes value after → 0 < value → BeginsToken (d ∷ bytes) (values.Positive value) after
token_number-positive d bytes value after one n some = word_at (d ∷ bytes) after (values.Positive value) (Some (pos value)) (refl, some, n.small) (unsigned-ahead d bytes value after one n)

negative-some : (value : ℕ) → 0 < value → (k : ℕ) × (negative value ≡ Some (negsuc k)) × (value ≡ suc k)
negative-some zero some = absurd (omega arith)
negative-some (suc k) some = (k, refl, refl)

pub token_number-negative : (d : ℕ) (bytes : List ℕ) (value : ℕ) (after : List ℕ) → is_ascii_digit d ≡ true → IsNumberAhead (d - 48) bytes value after → 0 < value → BeginsToken (45 ∷ d ∷ bytes) (values.Negative value) after
token_number-negative d bytes value after one n some =
    let s = negative-some value some in
    word_at (45 ∷ d ∷ bytes) after (values.Negative value) (negative value) (s.0, s.1, s.2, n.small) (negative-ahead d bytes value after one n)
