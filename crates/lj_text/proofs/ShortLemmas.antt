-- Numbers of few digits at the front of a line.
use Rattle.std.proofs.Common.{◌≡◌, Bool, ℕ, zero, suc, ◌+◌, ◌-◌, ◌*◌, ◌^◌, ◌<◌, ◌≤◌, ◌≢◌, ◌==◌, true, false, ◌&&◌, List, [], ◌∷◌, ◌++◌, length, get_or, take, drop, take-take, map, refl, sym, ap, ◌∙◌, subst, append_assoc, arith}
use Rattle.std.proofs.lemmas.Bool.{and_parts}
use Rattle.std.proofs.lemmas.Bool.Decides.{nat_tests}
use Rattle.std.proofs.lemmas.List.{length-take-le, drop-append-le, take-append-drop, get_or-take}
use Rattle.std.proofs.lemmas.List.Elements.{All-append, All-cons}
use Rattle.std.proofs.lemmas.List.Folds.{list_all-append}
use Rattle.std.proofs.Math.Nat.{pow-succ', pow-le-pow_right}
use Rattle.std.proofs.Math.Seq.{take-suc, drop-cons}
use Rattle.std.specs.List.{list_all}
use Rattle.std.specs.Array.{IsFirstChunk}
use Rattle.std.specs.Char.{is_ascii_digit}
use mir.Val.{bool_byte}
use Rattle.std.specs.Prelude.{Option, Some, Result, Ok, Err, ℤ, pos, neg_ℤ, unsigned_abs}
use Rattle.lj_clause.specs.Literal.{literal_on}
use Rattle.lj_clause.specs.Rat.{HintGroup}
use Rattle.lj_text.specs.declared.lines.fault.LineFaultKind.{LineFaultKind}
use Rattle.lj_text.specs.Bytes.{is_blank, is_filled, is_line_end, tokens_of, decimal_value, negative, number_of}
use Rattle.lj_text.specs.Lines.{greatest, hints_of, literals_then, numbers_of, with_read}
use Rattle.lj_text.specs.LinesRead.{HasNoLineEnd}
use Rattle.lj_text.specs.inner.LineReading.{IsReadOn, behind_hints, behind_literals, behind_numbers, token_numbers}
use Rattle.lj_text.specs.inner.ShortNumbers.{AreLiteralsAhead, AreNumbersAhead, IsShortNumber, IsTokenAhead}
use Rattle.lj_text.proofs.TokenLemmas.{tokens-blank, tokens-first}
use Rattle.lj_text.proofs.WordLemmas.{decimal_value-push, digits-all, digits_no_blanks, number-negative, number-unsigned}

-- The first i bytes are digits of a value.
pub record ShortRead (bytes : List ℕ) (i value : ℕ) : Type 0 where
  pub are_digits : list_all is_ascii_digit (take i bytes) ≡ true
  pub value_is : value ≡ decimal_value (take i bytes)
  pub small : value < 10 ^ i

power-more : (i : ℕ) → 10 ^ suc i ≡ 10 * 10 ^ i
power-more i = pow-succ' 10 i

pub short-small : (bytes : List ℕ) (i value : ℕ) → i < 9 → ShortRead bytes i value → value < 100000000
short-small bytes i value lt so_far = omega (arith, so_far.small, pow-le-pow_right {n = 10} (omega arith) {i = i} {j = 8} (omega arith))

pub short-step : (bytes : List ℕ) (i value next : ℕ) → i < length bytes → is_ascii_digit (get_or bytes i 0) ≡ true → next ≡ 10 * value + (get_or bytes i 0 - 48) → get_or bytes i 0 - 48 < 10
    → ShortRead bytes i value → ShortRead bytes (i + 1) next
short-step bytes i value next lt d e digit so_far =
    let P : ℕ → Type 0 = λ k. ShortRead bytes k next in
    let b : ℕ = get_or bytes i 0 in
    let more : take (suc i) bytes ≡ take i bytes ++ b ∷ [] = take-suc bytes i 0 lt in
    subst P {x = suc i} (omega arith) (record {
      are_digits = ap (list_all is_ascii_digit) more ∙ list_all-append is_ascii_digit (take i bytes) (b ∷ []) ∙ ap (λ t. t && list_all is_ascii_digit (b ∷ [])) so_far.are_digits ∙ ap (λ t. t && true) d;
      value_is = omega (arith, e, so_far.value_is, decimal_value-push (take i bytes) b, ap decimal_value more);
      small = omega (arith, e, so_far.small, digit, power-more i);
    })

pub filled-front : (bytes : List ℕ) (i : ℕ) → 0 < i → 0 < length bytes → is_filled (take i bytes) ≡ true
filled-front [] i some lt = absurd (omega arith)
filled-front (b ∷ bytes) zero some lt = absurd (omega arith)
filled-front (b ∷ bytes) (suc i) some lt = refl

-- the same of the whole bytes
of-front : (bytes : List ℕ) (i value : ℕ) → i < 9 → ShortRead (take 9 bytes) i value → ShortRead bytes i value
of-front bytes i value few so_far =
    let same : take i (take 9 bytes) ≡ take i bytes = take-take i 9 bytes (omega arith) in
    record {
      are_digits = ap (list_all is_ascii_digit) (sym same) ∙ so_far.are_digits;
      value_is = so_far.value_is ∙ ap decimal_value same;
      small = so_far.small;
    }

ended-by : (bytes : List ℕ) (i value : ℕ) → 0 < i → i < 9 → i < length bytes → get_or bytes i 0 ≡ 32 → ShortRead bytes i value → IsShortNumber bytes value (drop (suc i) bytes)
ended-by bytes i value some few lt space so_far =
    record {
      digits = take i bytes;
      some = filled-front bytes i some (omega arith);
      are_digits = so_far.are_digits;
      value_is = so_far.value_is;
      small = omega (arith, short-small bytes i value few so_far);
      bytes_is = sym (take-append-drop i bytes) ∙ ap (λ r. take i bytes ++ r) (drop-cons bytes i 0 lt) ∙ ap (λ b. take i bytes ++ b ∷ drop (suc i) bytes) space;
    }

pub short-end : (bytes front : List ℕ) (i value : ℕ) → 9 ≤ length bytes → front ≡ take 9 bytes → i ≢ 0 → i < 9 → get_or front i 0 ≡ 32 → ShortRead front i value → IsShortNumber bytes value (drop (i + 1) bytes)
short-end bytes front i value scratch is some few space so_far =
    let P : List ℕ → Type 0 = λ f. ShortRead f i value in
    let at : get_or bytes i 0 ≡ 32 = sym (get_or-take 9 bytes i 0 few) ∙ ap (λ f. get_or f i 0) (sym is) ∙ space in
    let Q : ℕ → Type 0 = λ k. IsShortNumber bytes value (drop k bytes) in
    subst Q {x = suc i} (omega arith) (ended-by bytes i value (omega (arith, some)) few (omega arith) at (of-front bytes i value few (subst P is so_far)))

both-left : (d : ℕ) (ds : List ℕ) → list_all is_ascii_digit (d ∷ ds) ≡ true → (is_ascii_digit d ≡ true) × (list_all is_ascii_digit ds ≡ true)
both-left d ds h = and_parts (is_ascii_digit d) (list_all is_ascii_digit ds) h

digit_no_line_end : (b : ℕ) → is_ascii_digit b ≡ true → is_line_end b ≡ false
digit_no_line_end b d = grind (arith, nat_tests)

none-ends : HasNoLineEnd []
none-ends = λ k d lt. absurd (omega arith)

pub before-more : (b : ℕ) (bytes : List ℕ) → is_line_end b ≡ false → HasNoLineEnd bytes → HasNoLineEnd (b ∷ bytes)
before-more b bytes one rest = All-cons (λ b. is_line_end b ≡ false) b bytes one rest

pub none-in-both : (front back : List ℕ) → HasNoLineEnd front → HasNoLineEnd back → HasNoLineEnd (front ++ back)
none-in-both front back f b = All-append (λ b. is_line_end b ≡ false) front back f b

-- digits and a space
spaced-ends : (ds : List ℕ) → list_all is_ascii_digit ds ≡ true → HasNoLineEnd (ds ++ 32 ∷ [])
spaced-ends ds all = none-in-both ds (32 ∷ []) (digits-all is_line_end digit_no_line_end ds all) (before-more 32 [] refl none-ends)

spaced-tokens : (ds tail : List ℕ) → is_filled ds ≡ true → list_all is_ascii_digit ds ≡ true → tokens_of ((ds ++ 32 ∷ []) ++ tail) ≡ ds ∷ tokens_of tail
spaced-tokens ds tail some all =
    ap tokens_of (append_assoc ds (32 ∷ []) tail) ∙ tokens-first ds 32 tail some (digits_no_blanks ds all) refl ∙ ap (λ ts. ds ∷ ts) (tokens-blank 32 tail refl)

unsigned-number : (ds : List ℕ) (value : ℕ) → is_filled ds ≡ true → list_all is_ascii_digit ds ≡ true → value ≡ decimal_value ds → number_of ds ≡ Some (pos value)
unsigned-number [] value some all is = cc
unsigned-number (d ∷ ds) value some all is =
    let both = both-left d ds all in
    number-unsigned d ds both.0 both.1 ∙ ap (λ v. Some (pos v)) (sym is)

pub short-ahead : (bytes : List ℕ) (value : ℕ) (after : List ℕ) → IsShortNumber bytes value after → IsTokenAhead bytes (pos value) after
short-ahead bytes value after n = record {
  front = n.digits ++ 32 ∷ [];
  token = n.digits;
  bytes_is = n.bytes_is ∙ sym (append_assoc n.digits (32 ∷ []) after);
  none_within = spaced-ends n.digits n.are_digits;
  tokens_are = λ tail. spaced-tokens n.digits tail n.some n.are_digits;
  number_is = unsigned-number n.digits value n.some n.are_digits n.value_is;
}

negative-of : (value : ℕ) → 0 < value → negative value ≡ Some (neg_ℤ (pos value))
negative-of zero some = absurd (omega arith)
negative-of (suc k) some = refl

signed-number : (ds : List ℕ) (value : ℕ) → 0 < value → is_filled ds ≡ true → list_all is_ascii_digit ds ≡ true → value ≡ decimal_value ds → number_of (45 ∷ ds) ≡ Some (neg_ℤ (pos value))
signed-number [] value more some all is = cc
signed-number (d ∷ ds) value more some all is =
    let both = both-left d ds all in
    number-negative d ds both.0 both.1 ∙ ap negative (sym is) ∙ negative-of value more

signed-tokens : (ds tail : List ℕ) → list_all is_ascii_digit ds ≡ true → tokens_of ((45 ∷ (ds ++ 32 ∷ [])) ++ tail) ≡ (45 ∷ ds) ∷ tokens_of tail
signed-tokens ds tail all =
    ap (λ t. tokens_of (45 ∷ t)) (append_assoc ds (32 ∷ []) tail)
    ∙ tokens-first (45 ∷ ds) 32 tail refl (All-cons (λ b. is_blank b ≡ false) 45 ds refl (digits_no_blanks ds all)) refl
    ∙ ap (λ ts. (45 ∷ ds) ∷ ts) (tokens-blank 32 tail refl)

signed-ahead : (bytes : List ℕ) (value : ℕ) (after : List ℕ) → 0 < value → IsShortNumber bytes value after → IsTokenAhead (45 ∷ bytes) (neg_ℤ (pos value)) after
signed-ahead bytes value after more n = record {
  front = 45 ∷ (n.digits ++ 32 ∷ []);
  token = 45 ∷ n.digits;
  bytes_is = ap (λ bs. 45 ∷ bs) (n.bytes_is ∙ sym (append_assoc n.digits (32 ∷ []) after));
  none_within = before-more 45 (n.digits ++ 32 ∷ []) refl (spaced-ends n.digits n.are_digits);
  tokens_are = λ tail. signed-tokens n.digits tail n.are_digits;
  number_is = signed-number n.digits value more n.some n.are_digits n.value_is;
}

-- a sign, where there is one, and digits
pub integer-ahead : (bytes digits : List ℕ) (sign : Bool) (value : ℕ) (after : List ℕ) → 0 < length bytes → sign ≡ (get_or bytes 0 0 == 45) → digits ≡ drop (bool_byte sign) bytes → 0 < value
    → IsShortNumber digits value after → IsTokenAhead bytes (literal_on value sign) after
integer-ahead [] digits sign value after some is cut more n = absurd (omega arith)
integer-ahead (b ∷ bytes) digits false value after some is cut more n =
    let P : List ℕ → Type 0 = λ ds. IsShortNumber ds value after in
    short-ahead (b ∷ bytes) value after (subst P cut n)
integer-ahead (b ∷ bytes) digits true value after some is cut more n =
    let P : List ℕ → Type 0 = λ ds. IsShortNumber ds value after in
    let Q : ℕ → Type 0 = λ c. IsTokenAhead (c ∷ bytes) (literal_on value true) after in
    let minus : 45 ≡ b = grind (arith, nat_tests) in
    subst Q minus (signed-ahead bytes value after more (subst P cut n))

-- the word that a token ahead is
pub token-token_number : (bytes : List ℕ) (number : ℤ) (after : List ℕ) (t : IsTokenAhead bytes number after) (tail : List ℕ) → token_numbers (t.front ++ tail) ≡ Some number ∷ token_numbers tail
token-token_number bytes number after t tail = ap (λ ts. map number_of ts) (t.tokens_are tail) ∙ ap (λ n. n ∷ token_numbers tail) t.number_is

-- Numbers behind others.
hints-one : (front : List ℕ) (value : ℕ) (read : Result (List ℕ × List HintGroup) LineFaultKind) → behind_hints front (with_read (λ r. (value ∷ r.0, r.1)) read) ≡ behind_hints (front ++ value ∷ []) read
hints-one front value (Ok r) = ap (λ hs. Ok (hs, r.1)) (sym (append_assoc front (value ∷ []) r.0))
hints-one front value (Err kind) = refl

numbers-one : (front : List ℕ) (value : ℕ) (read : Result (List ℕ) LineFaultKind) → behind_numbers front (with_read (λ ns. value ∷ ns) read) ≡ behind_numbers (front ++ value ∷ []) read
numbers-one front value (Ok ns) = ap (λ hs. Ok hs) (sym (append_assoc front (value ∷ []) ns))
numbers-one front value (Err kind) = refl

hints-token_number : (ended : Bool) (value : ℕ) (values : List (Option ℤ)) → 0 < value → value ≤ greatest → hints_of ended (Some (pos value) ∷ values) ≡ with_read (λ r. (value ∷ r.0, r.1)) (hints_of ended values)
hints-token_number ended zero values some few = absurd (omega arith)
hints-token_number ended (suc n) values some few = grind (arith, nat_tests)

numbers-token_number : (ended : Bool) (value : ℕ) (values : List (Option ℤ)) → 0 < value → value ≤ greatest → numbers_of ended (Some (pos value) ∷ values) ≡ with_read (λ ns. value ∷ ns) (numbers_of ended values)
numbers-token_number ended zero values some few = absurd (omega arith)
numbers-token_number ended (suc n) values some few = grind (arith, nat_tests)

read-one : (old bytes new : List ℕ) (value : ℕ) (middle rest : List ℕ) → token_numbers middle ≡ Some (pos value) ∷ token_numbers rest → 0 < value → value ≤ greatest → IsReadOn old bytes new middle → IsReadOn old bytes (new ++ value ∷ []) rest
read-one old bytes new value middle rest token_number some few r = record {
  hints = λ ended. sym (hints-one new value (hints_of ended (token_numbers rest))) ∙ sym (ap (behind_hints new) (ap (hints_of ended) token_number ∙ hints-token_number ended value (token_numbers rest) some few)) ∙ r.hints ended;
  numbers = λ ended. sym (numbers-one new value (numbers_of ended (token_numbers rest))) ∙ sym (ap (behind_numbers new) (ap (numbers_of ended) token_number ∙ numbers-token_number ended value (token_numbers rest) some few)) ∙ r.numbers ended;
}

pub numbers-none : (old bytes : List ℕ) → AreNumbersAhead old bytes old bytes
numbers-none old bytes = record { front = []; bytes_is = refl; none_within = none-ends; read = λ tail. record { hints = λ ended. refl; numbers = λ ended. refl } }

pub numbers-more : (old bytes new : List ℕ) (rest : List ℕ) (value : ℕ) (after : List ℕ) → value ≢ 0 → value ≤ greatest → IsTokenAhead rest (pos value) after → AreNumbersAhead old bytes new rest → AreNumbersAhead old bytes (new ++ value ∷ []) after
numbers-more old bytes new rest value after some few t so_far =
    record {
      front = so_far.front ++ t.front;
      bytes_is = so_far.bytes_is ∙ ap (λ r. so_far.front ++ r) t.bytes_is ∙ sym (append_assoc so_far.front t.front after);
      none_within = none-in-both so_far.front t.front so_far.none_within t.none_within;
      read = λ tail.
          let P : List ℕ → Type 0 = λ bs. IsReadOn old bs (new ++ value ∷ []) tail in
          subst P (sym (append_assoc so_far.front t.front tail))
          (read-one old (so_far.front ++ (t.front ++ tail)) new value (t.front ++ tail) tail (token-token_number rest (pos value) after t tail) (omega (arith, some)) few (so_far.read (t.front ++ tail)));
    }

pub numbers-read : (old bytes new rest : List ℕ) → AreNumbersAhead old bytes new rest → IsReadOn old bytes new rest
numbers-read old bytes new rest n = let P : List ℕ → Type 0 = λ bs. IsReadOn old bs new rest in subst P (sym n.bytes_is) (n.read rest)

-- numbers behind numbers
pub numbers-both : (old bytes middle rest new last : List ℕ) → AreNumbersAhead old bytes middle rest → AreNumbersAhead middle rest new last → AreNumbersAhead old bytes new last
numbers-both old bytes middle rest new last a b = record {
  front = a.front ++ b.front;
  bytes_is = a.bytes_is ∙ ap (λ r. a.front ++ r) b.bytes_is ∙ sym (append_assoc a.front b.front last);
  none_within = none-in-both a.front b.front a.none_within b.none_within;
  read = λ tail.
      let P : List ℕ → Type 0 = λ bs. IsReadOn old bs new tail in
      let one = a.read (b.front ++ tail) in
      let two = b.read tail in
      subst P (sym (append_assoc a.front b.front tail)) (record { hints = λ ended. two.hints ended ∙ one.hints ended; numbers = λ ended. two.numbers ended ∙ one.numbers ended });
}

-- what a window's bytes leave, and the bytes behind it
left-behind : (bytes window : List ℕ) (n : ℕ) → n ≤ length window → IsFirstChunk bytes window 80 → (front : List ℕ) → window ≡ front ++ drop n window → bytes ≡ front ++ drop n bytes
left-behind bytes window n few cut front is =
    let whole : bytes ≡ window ++ drop 80 bytes = sym (take-append-drop 80 bytes) ∙ ap (λ w. w ++ drop 80 bytes) (sym cut.same) in
    let left : drop n bytes ≡ drop n window ++ drop 80 bytes = ap (drop n) whole ∙ drop-append-le n window (drop 80 bytes) few in
    whole ∙ ap (λ w. w ++ drop 80 bytes) is ∙ append_assoc front (drop n window) (drop 80 bytes) ∙ ap (λ r. front ++ r) (sym left)

-- a short number of a window's bytes, at the front of all of them
pub short-on : (bytes window after : List ℕ) (n value : ℕ) → IsFirstChunk bytes window 80 → n ≤ 80 → IsShortNumber window value (drop n window) → after ≡ drop n bytes → IsShortNumber bytes value after
short-on bytes window after n value cut few s is =
    let long : n ≤ length window = omega (arith, few, ap length cut.same, length-take-le 80 bytes cut.enough) in
    record {
      digits = s.digits;
      some = s.some;
      are_digits = s.are_digits;
      value_is = s.value_is;
      small = s.small;
      bytes_is = left-behind bytes window n long cut (s.digits ++ 32 ∷ []) (s.bytes_is ∙ sym (append_assoc s.digits (32 ∷ []) (drop n window)))
          ∙ append_assoc s.digits (32 ∷ []) (drop n bytes) ∙ ap (λ r. s.digits ++ 32 ∷ r) (sym is);
    }

pub numbers-on : (old bytes middle rest window new after : List ℕ) (n : ℕ) → AreNumbersAhead old bytes middle rest → IsFirstChunk rest window 80 → AreNumbersAhead middle window new (drop n window) → n ≤ 65 → after ≡ drop n rest
    → AreNumbersAhead old bytes new after
numbers-on old bytes middle rest window new after n so_far cut more few is =
    let long : n ≤ length window = omega (arith, few, ap length cut.same, length-take-le 80 rest cut.enough) in
    let P : List ℕ → Type 0 = λ r. AreNumbersAhead old bytes new r in
    subst P (sym is) (numbers-both old bytes middle rest new (drop n rest) so_far (record {
      front = more.front;
      bytes_is = left-behind rest window n long cut more.front more.bytes_is;
      none_within = more.none_within;
      read = more.read;
    }))

-- Literals behind others.
literals-one : (front : List ℤ) (lit : ℤ) (read : Result (List ℤ × List (Option ℤ)) LineFaultKind) → behind_literals front (with_read (λ r. (lit ∷ r.0, r.1)) read) ≡ behind_literals (front ++ lit ∷ []) read
literals-one front lit (Ok r) = ap (λ ls. Ok (ls, r.1)) (sym (append_assoc front (lit ∷ []) r.0))
literals-one front lit (Err kind) = refl

literals-token_number : (max : ℕ) (ended : Bool) (lit : ℤ) (values : List (Option ℤ)) → 0 < unsigned_abs lit → unsigned_abs lit ≤ max → literals_then max ended (Some lit ∷ values) ≡ with_read (λ r. (lit ∷ r.0, r.1)) (literals_then max ended values)
literals-token_number max ended lit values some few = grind (arith, nat_tests)

abs-of : (variable : ℕ) (sign : Bool) → unsigned_abs (literal_on variable sign) ≡ variable
abs-of variable false = refl
abs-of zero true = refl
abs-of (suc n) true = refl

pub literals-more : (max : ℕ) (old : List ℤ) (bytes : List ℕ) (new : List ℤ) (rest : List ℕ) (variable : ℕ) (sign : Bool) (after : List ℕ) → variable ≢ 0 → variable ≤ max
    → (0 < variable → IsTokenAhead rest (literal_on variable sign) after) → AreLiteralsAhead max old bytes new rest → AreLiteralsAhead max old bytes (new ++ literal_on variable sign ∷ []) after
literals-more max old bytes new rest variable sign after some few ahead so_far =
    let lit : ℤ = literal_on variable sign in
    let abs : unsigned_abs lit ≡ variable = abs-of variable sign in
    let t : IsTokenAhead rest lit after = ahead (omega (arith, some)) in
    record {
      front = so_far.front ++ t.front;
      bytes_is = so_far.bytes_is ∙ ap (λ r. so_far.front ++ r) t.bytes_is ∙ sym (append_assoc so_far.front t.front after);
      none_within = none-in-both so_far.front t.front so_far.none_within t.none_within;
      read = λ ended tail.
          sym (literals-one new lit (literals_then max ended (token_numbers tail)))
          ∙ sym (ap (behind_literals new) (ap (literals_then max ended) (token-token_number rest lit after t tail) ∙ literals-token_number max ended lit (token_numbers tail) (omega (arith, abs, some)) (omega (arith, abs, few))))
          ∙ so_far.read ended (t.front ++ tail)
          ∙ ap (λ bs. behind_literals old (literals_then max ended (token_numbers bs))) (sym (append_assoc so_far.front t.front tail));
    }

pub literals-read : (max : ℕ) (old : List ℤ) (bytes : List ℕ) (new : List ℤ) (rest : List ℕ) → AreLiteralsAhead max old bytes new rest → (ended : Bool)
    → behind_literals new (literals_then max ended (token_numbers rest)) ≡ behind_literals old (literals_then max ended (token_numbers bytes))
literals-read max old bytes new rest n ended = n.read ended rest ∙ ap (λ bs. behind_literals old (literals_then max ended (token_numbers bs))) (sym n.bytes_is)

-- literals behind literals
pub literals-both : (max : ℕ) (old : List ℤ) (bytes : List ℕ) (middle : List ℤ) (rest : List ℕ) (new : List ℤ) (last : List ℕ) → AreLiteralsAhead max old bytes middle rest → AreLiteralsAhead max middle rest new last → AreLiteralsAhead max old bytes new last
literals-both max old bytes middle rest new last a b = record {
  front = a.front ++ b.front;
  bytes_is = a.bytes_is ∙ ap (λ r. a.front ++ r) b.bytes_is ∙ sym (append_assoc a.front b.front last);
  none_within = none-in-both a.front b.front a.none_within b.none_within;
  read = λ ended tail.
      b.read ended tail ∙ a.read ended (b.front ++ tail) ∙ ap (λ bs. behind_literals old (literals_then max ended (token_numbers bs))) (sym (append_assoc a.front b.front tail));
}

pub literals-on : (max : ℕ) (old : List ℤ) (bytes : List ℕ) (middle : List ℤ) (rest window : List ℕ) (new : List ℤ) (after : List ℕ) (n : ℕ) → AreLiteralsAhead max old bytes middle rest → IsFirstChunk rest window 80
    → AreLiteralsAhead max middle window new (drop n window) → n ≤ 65 → after ≡ drop n rest → AreLiteralsAhead max old bytes new after
literals-on max old bytes middle rest window new after n so_far cut more few is =
    let long : n ≤ length window = omega (arith, few, ap length cut.same, length-take-le 80 rest cut.enough) in
    let P : List ℕ → Type 0 = λ r. AreLiteralsAhead max old bytes new r in
    subst P (sym is) (literals-both max old bytes middle rest new (drop n rest) so_far (record {
      front = more.front;
      bytes_is = left-behind rest window n long cut more.front more.bytes_is;
      none_within = more.none_within;
      read = more.read;
    }))
