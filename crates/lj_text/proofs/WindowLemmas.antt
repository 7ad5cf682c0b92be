-- Numbers of few digits by words of eight bytes.
use Rattle.std.proofs.Common.{Fits, w8, not, ◌⊎◌, inl, inr, ◌≡◌, Bool, ℕ, zero, suc, ◌+◌, ◌-◌, ◌*◌, ◌/◌, ◌%◌, ◌^◌, ◌<◌, ◌≤◌, ◌==◌, true, false, cond, ◌&&◌, bit_and, bit_or, List, [], ◌∷◌, ◌++◌, length, get_or, take, drop, map, refl, sym, ap, ◌∙◌, subst, arith}
use Rattle.std.proofs.lemmas.List.{drop-drop, get_or-drop, length-drop, take-take, map-append, length-map, length-append, length-replicate, length-take-le, take-append-drop}
use Rattle.std.specs.List.{list_all}
use Rattle.std.specs.Char.{is_ascii_digit}
use Rattle.lj_text.specs.inner.ShortNumbers.{IsShortNumber}
use Rattle.lj_text.specs.Bytes.{decimal_value}
use Rattle.lj_text.proofs.ShortLemmas.{filled-front}
use Rattle.std.specs.Prelude.{replicate, nat_le}
use Rattle.std.specs.Int.RustNames.{bit_xor}
use Rattle.std.proofs.lemmas.Bool.{and_parts, cases_lt, false≢true}
use Rattle.std.proofs.lemmas.Bool.Decides.{nat_tests}
use Rattle.std.proofs.lemmas.Nat.{and_block, or_block, xor_block, and_mask, or_lt, and_shr, or_shr, xor_lt}
use Rattle.std.proofs.Math.Seq.{drop-cons}
use Rattle.std.proofs.Math.Nat.{pow-succ', mul_assoc, mul-le-mul_right}
use Rattle.lj_text.specs.inner.Windows.{moved_up, number_in_token, number_of_counts, AreBytes, AreCounts}

-- ---- tests of each byte
abbrev all-below : (ℕ → Bool) → ℕ → Bool
all-below p zero = true
all-below p (suc n) = p n && all-below p n

at-or-below : (p : ℕ → Bool) (n k : ℕ) → k < suc n → p n ≡ true → (k < n → p k ≡ true) → (k < n) ⊎ (n ≤ k) → p k ≡ true
at-or-below p n k lt last before (inl less) = before less
at-or-below p n k lt last before (inr le) = let is : n ≡ k = omega (arith, lt, le) in subst (λ m. p m ≡ true) is last

below-passes : (p : ℕ → Bool) (n k : ℕ) → all-below p n ≡ true → k < n → p k ≡ true
below-passes p zero k e lt = absurd (omega arith)
below-passes p (suc n) k e lt =
    let parts = and_parts (p n) (all-below p n) e in
    at-or-below p n k lt parts.0 (λ less. below-passes p n k parts.1 less) (cases_lt k n)

-- ---- a word's bytes against another's
abbrev aboves : ℕ → ℕ
aboves zero = 0
aboves (suc k) = 118 + 256 * aboves k

abbrev uppers : ℕ → ℕ
uppers zero = 0
uppers (suc k) = 128 + 256 * uppers k

abbrev zeros : ℕ → ℕ
zeros zero = 0
zeros (suc k) = 48 + 256 * zeros k

and-byte : (r s a b : ℕ) → r < 256 → s < 256 → bit_and (r + 256 * a) (s + 256 * b) ≡ bit_and r s + 256 * bit_and a b
and-byte r s a b lr ls =
    let left : r + 256 * a ≡ a * 256 + r = omega arith in
    let right : s + 256 * b ≡ b * 256 + s = omega arith in
    ap (λ x. bit_and x (s + 256 * b)) left ∙ ap (λ x. bit_and (a * 256 + r) x) right ∙ and_block 8 a b r s lr ls ∙ omega arith

or-byte : (r s a b : ℕ) → r < 256 → s < 256 → bit_or (r + 256 * a) (s + 256 * b) ≡ bit_or r s + 256 * bit_or a b
or-byte r s a b lr ls =
    let left : r + 256 * a ≡ a * 256 + r = omega arith in
    let right : s + 256 * b ≡ b * 256 + s = omega arith in
    ap (λ x. bit_or x (s + 256 * b)) left ∙ ap (λ x. bit_or (a * 256 + r) x) right ∙ or_block 8 a b r s lr ls ∙ omega arith

xor-byte : (r s a b : ℕ) → r < 256 → s < 256 → bit_xor (r + 256 * a) (s + 256 * b) ≡ bit_xor r s + 256 * bit_xor a b
xor-byte r s a b lr ls =
    let left : r + 256 * a ≡ a * 256 + r = omega arith in
    let right : s + 256 * b ≡ b * 256 + s = omega arith in
    ap (λ x. bit_xor x (s + 256 * b)) left ∙ ap (λ x. bit_xor (a * 256 + r) x) right ∙ xor_block 8 a b r s lr ls ∙ omega arith

-- a byte less 48, as far as it is a digit
abbrev pub less_zero : ℕ → ℕ
less_zero b = bit_xor b 48

xored : (bs : List ℕ) → AreBytes bs → bit_xor (number_in_token bs) (zeros (length bs)) ≡ number_in_token (map less_zero bs)
xored [] all = refl
xored (b ∷ bs) all = xor-byte b 48 (number_in_token bs) (zeros (length bs)) all.0 (omega arith) ∙ ap (λ w. less_zero b + 256 * w) (xored bs all.1)

-- ---- each byte is at most 9
abbrev low-test : ℕ → Bool
low-test r = cond (bit_and (bit_or ((r + 118) % 256) r) 128 == 0) (nat_le r 9) true

low-passes : (r : ℕ) → r < 256 → low-test r ≡ true
low-passes r lt = below-passes low-test 256 r refl lt

low-at-most : (r : ℕ) → r < 256 → bit_and (bit_or ((r + 118) % 256) r) 128 ≡ 0 → r ≤ 9
low-at-most r lt none =
    let passes : nat_le r 9 ≡ true = sym (ap (λ x. cond (x == 0) (nat_le r 9) true) none) ∙ low-passes r lt in
    grind (arith, nat_tests, passes)

nine : (bs : List ℕ) (z : ℕ) → AreBytes bs → z ≡ number_in_token bs + aboves (length bs) → bit_and (bit_or z (number_in_token bs)) (uppers (length bs)) ≡ 0 → AreCounts bs
nine [] z all e none = tt
nine (r ∷ bs) z all e none =
    let a : ℕ = number_in_token bs in
    let s : ℕ = (r + 118) % 256 in
    let t : ℕ = a + aboves (length bs) + (r + 118) / 256 in
    let byte : s < 256 = omega arith in
    let z-is : z ≡ s + 256 * t = omega (arith, e) in
    let parts : bit_or z (r + 256 * a) ≡ bit_or s r + 256 * bit_or t a = ap (λ x. bit_or x (r + 256 * a)) z-is ∙ or-byte s r t a byte all.0 in
    let cut : bit_and (bit_or s r + 256 * bit_or t a) (128 + 256 * uppers (length bs)) ≡ bit_and (bit_or s r) 128 + 256 * bit_and (bit_or t a) (uppers (length bs)) =
    and-byte (bit_or s r) 128 (bit_or t a) (uppers (length bs)) (or_lt 8 s r byte all.0) (omega arith) in
    let sum : bit_and (bit_or s r) 128 + 256 * bit_and (bit_or t a) (uppers (length bs)) ≡ 0 =
    sym cut ∙ ap (λ x. bit_and x (128 + 256 * uppers (length bs))) (sym parts) ∙ none in
    let low : bit_and (bit_or s r) 128 ≡ 0 = omega (arith, sum) in
    let high : bit_and (bit_or t a) (uppers (length bs)) ≡ 0 = omega (arith, sum) in
    let few : r ≤ 9 = low-at-most r all.0 low in
    let t-is : t ≡ a + aboves (length bs) = omega (arith, few) in
    (few, nine bs t all.1 t-is high)

top-clear : (x y : ℕ) → x < 2 → y < 2 → bit_and (bit_or x y) 1 ≡ 0 → y ≡ 0
top-clear x zero lx ly e = refl
top-clear zero (suc zero) lx ly e = absurd (omega (arith, e))
top-clear (suc zero) (suc zero) lx ly e = absurd (omega (arith, e))
top-clear (suc (suc x)) (suc zero) lx ly e = absurd (omega arith)
top-clear x (suc (suc y)) lx ly e = absurd (omega arith)

pub all-digits : (token_number : ℕ) → token_number < 18446744073709551616 → bit_and (bit_or ((token_number + 8536140394893047414) % 18446744073709551616) token_number) 9259542123273814144 ≡ 0
    → (bs : List ℕ) → length bs ≡ 8 → AreBytes bs → token_number ≡ number_in_token bs → AreCounts bs
all-digits token_number fits none bs eight all is =
    let z : ℕ = (token_number + 8536140394893047414) % 18446744073709551616 in
    let shifted : bit_and (bit_or (z / 2 ^ 63) (token_number / 2 ^ 63)) 1 ≡ 0 =
    ap (λ o. bit_and o 1) (sym (or_shr z token_number 63)) ∙ sym (and_shr (bit_or z token_number) 9259542123273814144 63) ∙ ap (λ x. x / 2 ^ 63) none in
    let top : token_number / 2 ^ 63 ≡ 0 = top-clear (z / 2 ^ 63) (token_number / 2 ^ 63) (omega arith) (omega (arith, fits)) shifted in
    let unwrapped : z ≡ token_number + 8536140394893047414 = omega (arith, top) in
    nine bs z all (unwrapped ∙ ap (λ w. w + 8536140394893047414) is ∙ ap (λ n. number_in_token bs + aboves n) (sym eight))
    (ap (λ n. bit_and (bit_or z (number_in_token bs)) (uppers n)) eight ∙ ap (λ w. bit_and (bit_or z w) 9259542123273814144) (sym is) ∙ none)

-- ---- the value of eight digits
and-two : (r s a b : ℕ) → r < 65536 → s < 65536 → bit_and (r + 65536 * a) (s + 65536 * b) ≡ bit_and r s + 65536 * bit_and a b
and-two r s a b lr ls =
    let left : r + 65536 * a ≡ a * 65536 + r = omega arith in
    let right : s + 65536 * b ≡ b * 65536 + s = omega arith in
    ap (λ x. bit_and x (s + 65536 * b)) left ∙ ap (λ x. bit_and (a * 65536 + r) x) right ∙ and_block 16 a b r s lr ls ∙ omega arith

and-four : (r s a b : ℕ) → r < 4294967296 → s < 4294967296 → bit_and (r + 4294967296 * a) (s + 4294967296 * b) ≡ bit_and r s + 4294967296 * bit_and a b
and-four r s a b lr ls =
    let left : r + 4294967296 * a ≡ a * 4294967296 + r = omega arith in
    let right : s + 4294967296 * b ≡ b * 4294967296 + s = omega arith in
    ap (λ x. bit_and x (s + 4294967296 * b)) left ∙ ap (λ x. bit_and (a * 4294967296 + r) x) right ∙ and_block 32 a b r s lr ls ∙ omega arith

low-byte : (c q : ℕ) → c < 256 → bit_and (c + 256 * q) 255 ≡ c
low-byte c q lt = and_mask (c + 256 * q) 8 ∙ omega (arith, lt)

low-two : (c q : ℕ) → c < 65536 → bit_and (c + 65536 * q) 65535 ≡ c
low-two c q lt = and_mask (c + 65536 * q) 16 ∙ omega (arith, lt)

-- the first and every other byte of four pairs
masked-pairs : (c0 c1 c2 c3 q0 q1 q2 q3 : ℕ) → c0 < 256 → c1 < 256 → c2 < 256 → c3 < 256 → q0 < 256 → q1 < 256 → q2 < 256 → q3 < 256
    → bit_and ((c0 + 256 * q0) + 65536 * ((c1 + 256 * q1) + 65536 * ((c2 + 256 * q2) + 65536 * (c3 + 256 * q3)))) 71777214294589695 ≡ c0 + 65536 * (c1 + 65536 * (c2 + 65536 * c3))
masked-pairs c0 c1 c2 c3 q0 q1 q2 q3 l0 l1 l2 l3 m0 m1 m2 m3 =
    and-two (c0 + 256 * q0) 255 ((c1 + 256 * q1) + 65536 * ((c2 + 256 * q2) + 65536 * (c3 + 256 * q3))) 1095233372415 (omega (arith, l0, m0)) (omega arith)
    ∙ ap (λ x. bit_and (c0 + 256 * q0) 255 + 65536 * x) (and-two (c1 + 256 * q1) 255 ((c2 + 256 * q2) + 65536 * (c3 + 256 * q3)) 16711935 (omega (arith, l1, m1)) (omega arith))
    ∙ ap (λ x. bit_and (c0 + 256 * q0) 255 + 65536 * (bit_and (c1 + 256 * q1) 255 + 65536 * x)) (and-two (c2 + 256 * q2) 255 (c3 + 256 * q3) 255 (omega (arith, l2, m2)) (omega arith))
    ∙ omega (arith, low-byte c0 q0 l0, low-byte c1 q1 l1, low-byte c2 q2 l2, low-byte c3 q3 l3)

masked-fours : (c0 c1 q0 q1 : ℕ) → c0 < 65536 → c1 < 65536 → q0 < 65536 → q1 < 65536
    → bit_and ((c0 + 65536 * q0) + 4294967296 * (c1 + 65536 * q1)) 281470681808895 ≡ c0 + 4294967296 * c1
masked-fours c0 c1 q0 q1 l0 l1 m0 m1 =
    and-four (c0 + 65536 * q0) 65535 (c1 + 65536 * q1) 65535 (omega (arith, l0, m0)) (omega arith)
    ∙ omega (arith, low-two c0 q0 l0, low-two c1 q1 l1)

pub value-is : (counts : List ℕ) → length counts ≡ 8 → AreCounts counts → (token_number pairs fours : ℕ) → token_number ≡ number_in_token counts
    → pairs ≡ bit_and (token_number * 2561 % 18446744073709551616 / 256) 71777214294589695
    → fours ≡ bit_and (pairs * 6553601 % 18446744073709551616 / 65536) 281470681808895
    → fours * 42949672960001 % 18446744073709551616 / 4294967296 ≡ number_of_counts counts
value-is (d0 ∷ d1 ∷ d2 ∷ d3 ∷ d4 ∷ d5 ∷ d6 ∷ d7 ∷ []) eight all token_number pairs fours is is-pairs is-fours =
    let l0 : d0 ≤ 9 = all.0 in
    let l1 : d1 ≤ 9 = all.1.0 in
    let l2 : d2 ≤ 9 = all.1.1.0 in
    let l3 : d3 ≤ 9 = all.1.1.1.0 in
    let l4 : d4 ≤ 9 = all.1.1.1.1.0 in
    let l5 : d5 ≤ 9 = all.1.1.1.1.1.0 in
    let l6 : d6 ≤ 9 = all.1.1.1.1.1.1.0 in
    let l7 : d7 ≤ 9 = all.1.1.1.1.1.1.1.0 in
    let tenfold : token_number * 2561 % 18446744073709551616 / 256
    ≡ ((10 * d0 + d1) + 256 * (10 * d1 + d2)) + 65536 * (((10 * d2 + d3) + 256 * (10 * d3 + d4)) + 65536 * (((10 * d4 + d5) + 256 * (10 * d5 + d6)) + 65536 * ((10 * d6 + d7) + 256 * 0))) =
    omega (arith, is, l0, l1, l2, l3, l4, l5, l6, l7) in
    let paired : pairs ≡ (10 * d0 + d1) + 65536 * ((10 * d2 + d3) + 65536 * ((10 * d4 + d5) + 65536 * (10 * d6 + d7))) =
    is-pairs ∙ ap (λ x. bit_and x 71777214294589695) tenfold
    ∙ masked-pairs (10 * d0 + d1) (10 * d2 + d3) (10 * d4 + d5) (10 * d6 + d7) (10 * d1 + d2) (10 * d3 + d4) (10 * d5 + d6) 0
    (omega (arith, l0, l1)) (omega (arith, l2, l3)) (omega (arith, l4, l5)) (omega (arith, l6, l7)) (omega (arith, l1, l2)) (omega (arith, l3, l4)) (omega (arith, l5, l6)) (omega arith) in
    let hundredfold : pairs * 6553601 % 18446744073709551616 / 65536
    ≡ ((100 * (10 * d0 + d1) + (10 * d2 + d3)) + 65536 * (100 * (10 * d2 + d3) + (10 * d4 + d5))) + 4294967296 * ((100 * (10 * d4 + d5) + (10 * d6 + d7)) + 65536 * 0) =
    omega (arith, paired, l0, l1, l2, l3, l4, l5, l6, l7) in
    let grouped : fours ≡ (100 * (10 * d0 + d1) + (10 * d2 + d3)) + 4294967296 * (100 * (10 * d4 + d5) + (10 * d6 + d7)) =
    is-fours ∙ ap (λ x. bit_and x 281470681808895) hundredfold
    ∙ masked-fours (100 * (10 * d0 + d1) + (10 * d2 + d3)) (100 * (10 * d4 + d5) + (10 * d6 + d7)) (100 * (10 * d2 + d3) + (10 * d4 + d5)) 0
    (omega (arith, l0, l1, l2, l3)) (omega (arith, l4, l5, l6, l7)) (omega (arith, l2, l3, l4, l5)) (omega arith) in
    omega (arith, grouped, l0, l1, l2, l3, l4, l5, l6, l7)
value-is [] eight all token_number pairs fours is is-pairs is-fours = absurd (omega arith)
value-is (d0 ∷ []) eight all token_number pairs fours is is-pairs is-fours = absurd (omega arith)
value-is (d0 ∷ d1 ∷ []) eight all token_number pairs fours is is-pairs is-fours = absurd (omega arith)
value-is (d0 ∷ d1 ∷ d2 ∷ []) eight all token_number pairs fours is is-pairs is-fours = absurd (omega arith)
value-is (d0 ∷ d1 ∷ d2 ∷ d3 ∷ []) eight all token_number pairs fours is is-pairs is-fours = absurd (omega arith)
value-is (d0 ∷ d1 ∷ d2 ∷ d3 ∷ d4 ∷ []) eight all token_number pairs fours is is-pairs is-fours = absurd (omega arith)
value-is (d0 ∷ d1 ∷ d2 ∷ d3 ∷ d4 ∷ d5 ∷ []) eight all token_number pairs fours is is-pairs is-fours = absurd (omega arith)
value-is (d0 ∷ d1 ∷ d2 ∷ d3 ∷ d4 ∷ d5 ∷ d6 ∷ []) eight all token_number pairs fours is is-pairs is-fours = absurd (omega arith)
value-is (d0 ∷ d1 ∷ d2 ∷ d3 ∷ d4 ∷ d5 ∷ d6 ∷ d7 ∷ d8 ∷ ds) eight all token_number pairs fours is is-pairs is-fours = absurd (omega arith)

-- ---- a word moved up, so that its last digit stands in the last byte
token_number-append : (xs ys : List ℕ) → number_in_token (xs ++ ys) ≡ number_in_token xs + 256 ^ length xs * number_in_token ys
token_number-append [] ys = omega arith
token_number-append (x ∷ xs) ys =
    let power : 256 ^ suc (length xs) ≡ 256 * 256 ^ length xs = pow-succ' 256 (length xs) in
    let product : 256 ^ suc (length xs) * number_in_token ys ≡ 256 * (256 ^ length xs * number_in_token ys) = ap (λ p. p * number_in_token ys) power ∙ mul_assoc 256 (256 ^ length xs) (number_in_token ys) in
    omega (arith, token_number-append xs ys, product)

token_number-below : (xs : List ℕ) → AreBytes xs → number_in_token xs < 256 ^ length xs
token_number-below [] all = omega arith
token_number-below (x ∷ xs) all = omega (arith, all.0, token_number-below xs all.1, pow-succ' 256 (length xs))

zeros-before : (k : ℕ) (xs : List ℕ) → number_in_token (replicate k 0 ++ xs) ≡ 256 ^ k * number_in_token xs
zeros-before zero xs = omega arith
zeros-before (suc k) xs =
    let product : 256 ^ suc k * number_in_token xs ≡ 256 * (256 ^ k * number_in_token xs) = ap (λ p. p * number_in_token xs) (pow-succ' 256 k) ∙ mul_assoc 256 (256 ^ k) (number_in_token xs) in
    omega (arith, zeros-before k xs, product)

moved-by : (k a y : ℕ) → k < 8 → a < 256 ^ (8 - k) → ((a + 256 ^ (8 - k) * y) * 2 ^ (8 * k)) % 18446744073709551616 ≡ 256 ^ k * a
moved-by zero a y few lt = omega (arith, lt)
moved-by (suc zero) a y few lt = omega (arith, lt)
moved-by (suc (suc zero)) a y few lt = omega (arith, lt)
moved-by (suc (suc (suc zero))) a y few lt = omega (arith, lt)
moved-by (suc (suc (suc (suc zero)))) a y few lt = omega (arith, lt)
moved-by (suc (suc (suc (suc (suc zero))))) a y few lt = omega (arith, lt)
moved-by (suc (suc (suc (suc (suc (suc zero)))))) a y few lt = omega (arith, lt)
moved-by (suc (suc (suc (suc (suc (suc (suc zero))))))) a y few lt = omega (arith, lt)
moved-by (suc (suc (suc (suc (suc (suc (suc (suc k)))))))) a y few lt = absurd (omega arith)

moved-up : (xs ys : List ℕ) (k : ℕ) → AreBytes xs → k < 8 → length xs ≡ 8 - k → (number_in_token (xs ++ ys) * 2 ^ (8 * k)) % 18446744073709551616 ≡ number_in_token (replicate k 0 ++ xs)
moved-up xs ys k all few long =
    ap (λ w. (w * 2 ^ (8 * k)) % 18446744073709551616) (token_number-append xs ys ∙ ap (λ n. number_in_token xs + 256 ^ n * number_in_token ys) long)
    ∙ moved-by k (number_in_token xs) (number_in_token ys) few (subst (λ n. number_in_token xs < 256 ^ n) long (token_number-below xs all))
    ∙ sym (zeros-before k xs)

-- ---- the number in a window
bytes-take : (n : ℕ) (bs : List ℕ) → AreBytes bs → AreBytes (take n bs)
bytes-take zero bs all = tt
bytes-take (suc n) [] all = tt
bytes-take (suc n) (b ∷ bs) all = (all.0, bytes-take n bs all.1)

bytes-drop : (n : ℕ) (bs : List ℕ) → AreBytes bs → AreBytes (drop n bs)
bytes-drop zero bs all = all
bytes-drop (suc n) [] all = tt
bytes-drop (suc n) (b ∷ bs) all = bytes-drop n bs all.1

bytes-of : (bs : List ℕ) → ((i : ℕ) → Fits w8 (get_or bs i 0)) → AreBytes bs
bytes-of [] fit = tt
bytes-of (b ∷ bs) fit = ((fit 0).fits, bytes-of bs (λ i. fit (suc i)))

pub bytes-at : (bs : List ℕ) (start : ℕ) → ((i : ℕ) → Fits w8 (get_or bs i 0)) → AreBytes (take 8 (drop start bs))
bytes-at bs start fit = bytes-take 8 (drop start bs) (bytes-drop start bs (bytes-of bs fit))

bytes-less : (bs : List ℕ) → AreBytes bs → AreBytes (map less_zero bs)
bytes-less [] all = tt
bytes-less (b ∷ bs) all = (xor_lt 8 b 48 all.0 (omega arith), bytes-less bs all.1)

bytes-behind : (k : ℕ) (bs : List ℕ) → AreBytes bs → AreBytes (replicate k 0 ++ bs)
bytes-behind zero bs all = all
bytes-behind (suc k) bs all = (omega arith, bytes-behind k bs all)

counts-front : (k : ℕ) (ds : List ℕ) → AreCounts (replicate k 0 ++ ds) → AreCounts ds
counts-front zero ds all = all
counts-front (suc k) ds all = counts-front k ds all.1

counts-behind : (k : ℕ) (ds : List ℕ) → AreCounts ds → AreCounts (replicate k 0 ++ ds)
counts-behind zero ds all = all
counts-behind (suc k) ds all = (omega arith, counts-behind k ds all)

number-behind : (k : ℕ) (ds : List ℕ) → number_of_counts (replicate k 0 ++ ds) ≡ number_of_counts ds
number-behind zero ds = refl
number-behind (suc k) ds = omega (arith, number-behind k ds)

number-below : (ds : List ℕ) → AreCounts ds → number_of_counts ds < 10 ^ length ds
number-below [] all = omega arith
number-below (d ∷ ds) all =
    let most : d * 10 ^ length ds ≤ 9 * 10 ^ length ds = mul-le-mul_right (10 ^ length ds) all.0 in
    omega (arith, most, number-below ds all.1, pow-succ' 10 (length ds))

-- a byte is a digit exactly where it counts to 9 at most
abbrev digit-test : ℕ → Bool
digit-test b = cond (nat_le (less_zero b) 9) (is_ascii_digit b && (less_zero b == b - 48)) (not (is_ascii_digit b))

digit-passes : (b : ℕ) → b < 256 → digit-test b ≡ true
digit-passes b lt = below-passes digit-test 256 b refl lt

few-digit : (b : ℕ) (few digit same : Bool) → cond few (digit && same) (not digit) ≡ true → (few ≡ true → (digit ≡ true) × (same ≡ true)) × (digit ≡ true → (few ≡ true) × (same ≡ true))
few-digit b true digit same e = let parts = and_parts digit same e in (λ _. parts, λ _. (refl, parts.1))
few-digit b false true same e = (λ none. absurd (false≢true none), λ _. absurd (false≢true e))
few-digit b false false same e = (λ none. absurd (false≢true none), λ none. absurd (false≢true none))

both-ways : (b : ℕ) → b < 256 → (nat_le (less_zero b) 9 ≡ true → (is_ascii_digit b ≡ true) × ((less_zero b == b - 48) ≡ true)) × (is_ascii_digit b ≡ true → (nat_le (less_zero b) 9 ≡ true) × ((less_zero b == b - 48) ≡ true))
both-ways b lt = few-digit b (nat_le (less_zero b) 9) (is_ascii_digit b) (less_zero b == b - 48) (digit-passes b lt)

digits-of : (bs : List ℕ) → AreBytes bs → AreCounts (map less_zero bs) → list_all is_ascii_digit bs ≡ true
digits-of [] all counts = refl
digits-of (b ∷ bs) all counts =
    let first : nat_le (less_zero b) 9 ≡ true = grind (arith, nat_tests, counts.0) in
    ap (λ t. t && list_all is_ascii_digit bs) ((both-ways b all.0).0 first).0 ∙ digits-of bs all.1 counts.1

decimal-of : (bs : List ℕ) → AreBytes bs → list_all is_ascii_digit bs ≡ true → AreCounts (map less_zero bs) × (number_of_counts (map less_zero bs) ≡ decimal_value bs)
decimal-of [] all digits = (tt, refl)
decimal-of (b ∷ bs) all digits =
    let parts = and_parts (is_ascii_digit b) (list_all is_ascii_digit bs) digits in
    let first = (both-ways b all.0).1 parts.0 in
    let few : less_zero b ≤ 9 = grind (arith, nat_tests, first.0) in
    let same : less_zero b ≡ b - 48 = grind (arith, nat_tests, first.1) in
    let rest = decimal-of bs all.1 parts.1 in (
      (few, rest.0),
      ap (λ n. less_zero b * 10 ^ n + number_of_counts (map less_zero bs)) (length-map bs less_zero) ∙ ap (λ d. d * 10 ^ length bs + number_of_counts (map less_zero bs)) same ∙ ap (λ n. (b - 48) * 10 ^ length bs + n) rest.1,
    )

-- eight bytes, of which the first n are moved up, are those and zeros before them
abbrev IsWindow : List ℕ → ℕ → Type 0
IsWindow bytes n = AreBytes (take 8 bytes) × (8 ≤ length bytes) × (0 < n) × (n ≤ 8)

abbrev filled : List ℕ → ℕ → List ℕ
filled bytes n = replicate (8 - n) 0 ++ map less_zero (take n bytes)

front-bytes : (bytes : List ℕ) (n : ℕ) → IsWindow bytes n → AreBytes (take n bytes)
front-bytes bytes n w = subst AreBytes (take-take n 8 bytes w.3) (bytes-take n (take 8 bytes) w.0)

filled-bytes : (bytes : List ℕ) (n : ℕ) → IsWindow bytes n → AreBytes (filled bytes n)
filled-bytes bytes n w = bytes-behind (8 - n) (map less_zero (take n bytes)) (bytes-less (take n bytes) (front-bytes bytes n w))

long-front : (bytes : List ℕ) (n : ℕ) → IsWindow bytes n → length (map less_zero (take n bytes)) ≡ n
long-front bytes n w = length-map (take n bytes) less_zero ∙ length-take-le n bytes (omega (arith, w.1, w.3))

filled-long : (bytes : List ℕ) (n : ℕ) → IsWindow bytes n → length (filled bytes n) ≡ 8
filled-long bytes n w = omega (arith, length-append (replicate (8 - n) 0) (map less_zero (take n bytes)), length-replicate {A = ℕ} (8 - n) 0, long-front bytes n w, w.3)

moved-is : (bytes : List ℕ) (n : ℕ) → IsWindow bytes n → moved_up bytes n ≡ number_in_token (filled bytes n)
moved-is bytes n w =
    let whole : List ℕ = take 8 bytes in
    let k : ℕ = 8 - n in
    let xs : List ℕ = map less_zero (take n bytes) in
    let ys : List ℕ = map less_zero (drop n whole) in
    let split : map less_zero whole ≡ xs ++ ys =
    ap (map less_zero) (sym (take-append-drop n whole)) ∙ map-append less_zero (take n whole) (drop n whole) ∙ ap (λ t. map less_zero t ++ ys) (take-take n 8 bytes w.3) in
    let eight : length whole ≡ 8 = length-take-le 8 bytes w.1 in
    let plain : bit_xor (number_in_token whole) 3472328296227680304 ≡ number_in_token (xs ++ ys) =
    ap (λ m. bit_xor (number_in_token whole) (zeros m)) (sym eight) ∙ xored whole w.0 ∙ ap number_in_token split in
    let up : 64 - 8 * n ≡ 8 * k = omega (arith, w.3) in
    ap (λ v. (v * 2 ^ (64 - 8 * n)) % 18446744073709551616) plain ∙ ap (λ m. (number_in_token (xs ++ ys) * 2 ^ m) % 18446744073709551616) up
    ∙ moved-up xs ys k (bytes-less (take n bytes) (front-bytes bytes n w)) (omega (arith, w.2)) (omega (arith, long-front bytes n w, w.3))

pub told-digits : (bytes : List ℕ) (n : ℕ) → IsWindow bytes n
    → ((digits : List ℕ) → length digits ≡ 8 → AreBytes digits → moved_up bytes n ≡ number_in_token digits → AreCounts digits)
    → list_all is_ascii_digit (take n bytes) ≡ true
told-digits bytes n w told =
    let counts : AreCounts (filled bytes n) = told (filled bytes n) (filled-long bytes n w) (filled-bytes bytes n w) (moved-is bytes n w) in
    digits-of (take n bytes) (front-bytes bytes n w) (counts-front (8 - n) (map less_zero (take n bytes)) counts)

pub within : (bytes : List ℕ) (n value : ℕ) → IsWindow bytes n → n < length bytes → get_or bytes n 0 ≡ 32 → list_all is_ascii_digit (take n bytes) ≡ true
    → ((counts : List ℕ) → length counts ≡ 8 → AreCounts counts → moved_up bytes n ≡ number_in_token counts → value ≡ number_of_counts counts)
    → IsShortNumber bytes value (drop (n + 1) bytes)
within bytes n value w long space digits number =
    let front : List ℕ = take n bytes in
    let decimal = decimal-of front (front-bytes bytes n w) digits in
    let counts : AreCounts (filled bytes n) = counts-behind (8 - n) (map less_zero front) decimal.0 in
    let value-of : value ≡ number_of_counts (filled bytes n) = number (filled bytes n) (filled-long bytes n w) counts (moved-is bytes n w) in
    let below : number_of_counts (filled bytes n) < 10 ^ 8 = subst (λ m. number_of_counts (filled bytes n) < 10 ^ m) (filled-long bytes n w) (number-below (filled bytes n) counts) in
    let found : IsShortNumber bytes value (drop (suc n) bytes) = record {
      digits = front;
      some = filled-front bytes n w.2 (omega (arith, long));
      are_digits = digits;
      value_is = value-of ∙ number-behind (8 - n) (map less_zero front) ∙ decimal.1;
      small = omega (arith, value-of, below);
      bytes_is = sym (take-append-drop n bytes) ∙ ap (λ r. front ++ r) (drop-cons bytes n 0 long) ∙ ap (λ b. front ++ b ∷ drop (suc n) bytes) space;
    } in
    let next : suc n ≡ n + 1 = omega arith in
    subst (λ m. IsShortNumber bytes value (drop m bytes)) next found

-- the same of a window from one place to the next
pub window-at : (window : List ℕ) (start end : ℕ) → AreBytes (take 8 (drop start window)) → start + 8 ≤ length window → start < end → end ≤ start + 8 → IsWindow (drop start window) (end - start)
window-at window start end bytes scratch some few = (bytes, omega (arith, length-drop start window, scratch), omega (arith, some), omega (arith, few))

pub number-at : (window : List ℕ) (start end value : ℕ) → IsWindow (drop start window) (end - start) → start < end → end < length window → get_or window end 0 ≡ 32
    → list_all is_ascii_digit (take (end - start) (drop start window)) ≡ true
    → ((counts : List ℕ) → length counts ≡ 8 → AreCounts counts → moved_up (drop start window) (end - start) ≡ number_in_token counts → value ≡ number_of_counts counts)
    → IsShortNumber (drop start window) value (drop (end + 1) window)
number-at window start end value w some long space digits number =
    let n : ℕ = end - start in
    let bytes : List ℕ = drop start window in
    let back : start + n ≡ end = omega (arith, some) in
    let found = within bytes n value w (omega (arith, length-drop start window, long, some)) (get_or-drop start window n 0 ∙ ap (λ i. get_or window i 0) back ∙ space) digits number in
    let position : drop (n + 1) bytes ≡ drop (end + 1) window = drop-drop (n + 1) start window ∙ ap (λ k. drop k window) (omega (arith, back)) in
    subst (λ after. IsShortNumber bytes value after) position found
