-- What is no digit among a window's bytes, by words that have a bit for each of them.
use Rattle.std.proofs.Common.{Fits, w8, ◌≡◌, ◌≢◌, Bool, ℕ, zero, suc, ◌+◌, ◌-◌, ◌*◌, ◌/◌, ◌%◌, ◌^◌, ◌<◌, ◌≤◌, leb, true, false, not, ◌&&◌, cond, bit_and, List, [], ◌∷◌, length, take, drop, map, replicate, refl, sym, ap, ap₂, ◌∙◌, subst, arith}
use lib.Count.{under}
use Rattle.std.proofs.lemmas.Bool.{agree_below, agree_below_at}
use Rattle.std.proofs.lemmas.List.{drop-take, length-map, length-take-le, take-take}
use Rattle.std.proofs.lemmas.Nat.{and_block}
use Rattle.std.proofs.lemmas.Simd.{zip2_splat, map-map, mask_l-mod}
use Rattle.std.specs.Int.Bits.{and_self}
use Rattle.std.specs.Simd.Lanes.{Each1, mask_l, top, zip2}
use Rattle.std.specs.Int.Count.{count_trailing_zeros}
use Rattle.std.specs.List.{list_all}
use Rattle.std.specs.Char.{is_ascii_digit}
use Rattle.lj_text.specs.inner.Windows.{is_other, others_from, others_of}

-- ---- the test of each lane
abbrev at_most : ℕ → ℕ → ℕ
at_most a b = cond (leb a b) 255 0

each-byte : (f : ℕ → ℕ) (p : ℕ → Bool) → agree_below (λ x. top 7 (f x)) p 256 ≡ true → (bs : List ℕ) → Each1 (Fits w8) bs → map (top 7) (map f bs) ≡ map p bs
each-byte f p all [] fits = refl
each-byte f p all (b ∷ bs) fits = ap₂ (λ x xs. x ∷ xs) (agree_below_at (λ x. top 7 (f x)) p 256 b all fits.0.fits) (each-byte f p all bs fits.1)

splat-left : (h : ℕ → ℕ → ℕ) (y n : ℕ) (xs : List ℕ) → length xs ≡ n → zip2 h (replicate n y) xs ≡ map (h y) xs
splat-left h y n xs long = ap (λ k. zip2 h (replicate k y) xs) (sym long) ∙ same xs
  where
    same : (xs : List ℕ) → zip2 h (replicate (length xs) y) xs ≡ map (h y) xs
    same [] = refl
    same (x ∷ xs) = ap (λ r. h y x ∷ r) (same xs)

pub others-are : (bs : List ℕ) (n : ℕ) → length bs ≡ n → n ≤ 64 → Each1 (Fits w8) bs
    → mask_l (map (top 7) (zip2 at_most (replicate n 10) (zip2 (λ a b. (a + (256 - b)) % 256) bs (replicate n 48)))) % 2 ^ 64 ≡ others_of bs
others-are bs n long few fits =
    let less : List ℕ = map (λ b. (b + (256 - 48)) % 256) bs in
    let moved = zip2_splat (λ a b. (a + (256 - b)) % 256) bs n 48 long in
    let tested : zip2 at_most (replicate n 10) less ≡ map (at_most 10) less = splat-left at_most 10 n less (length-map bs (λ b. (b + (256 - 48)) % 256) ∙ long) in
    ap (λ l. mask_l (map (top 7) l) % 2 ^ 64) (ap (zip2 at_most (replicate n 10)) moved ∙ tested ∙ map-map (at_most 10) (λ b. (b + (256 - 48)) % 256) bs)
    ∙ ap (λ l. mask_l l % 2 ^ 64) (each-byte (λ b. at_most 10 ((b + (256 - 48)) % 256)) is_other refl bs fits)
    ∙ mask_l-mod (map is_other bs) 64 (omega (arith, length-map bs is_other, long, few))

-- ---- the first that is no digit, from a place on
abbrev next_other : List ℕ → ℕ → ℕ
next_other [] n = 0
next_other (b ∷ bs) zero = cond (is_other b) 0 (suc (next_other bs zero))
next_other (b ∷ bs) (suc n) = suc (next_other bs n)

doubled : (m : ℕ) → ((2 * m) % 2 ≡ 0) × ((2 * m) / 2 ≡ m)
doubled m = omega arith

odd : (m : ℕ) → ((1 + 2 * m) % 2 ≡ 1) × ((1 + 2 * m) / 2 ≡ m)
odd m = omega arith

trailing-double : (w m : ℕ) → count_trailing_zeros (suc w) (2 * m) ≡ suc (count_trailing_zeros w m)
unfolding count_trailing_zeros
trailing-double w m = λ i. under ((doubled m).0 i) (count_trailing_zeros w ((doubled m).1 i))

trailing-odd : (w m : ℕ) → count_trailing_zeros (suc w) (1 + 2 * m) ≡ 0
unfolding count_trailing_zeros
trailing-odd w m = λ i. under ((odd m).0 i) (count_trailing_zeros w ((odd m).1 i))

first-one : (o : Bool) (w m next : ℕ) → 0 < cond o 1 0 + 2 * m → (0 < m → count_trailing_zeros w m ≡ next) → count_trailing_zeros (suc w) (cond o 1 0 + 2 * m) ≡ cond o 0 (suc next)
first-one true w m next some rest = trailing-odd w m
first-one false w m next some rest =
    let same : cond false 1 0 + 2 * m ≡ 2 * m = omega arith in
    ap (count_trailing_zeros (suc w)) same ∙ trailing-double w m ∙ ap suc (rest (omega (arith, some)))

first-other : (w : ℕ) (bs : List ℕ) (n : ℕ) → length bs ≤ w → 0 < others_from bs n → count_trailing_zeros w (others_from bs n) ≡ next_other bs n
first-other w [] zero short some = absurd (omega (arith, some))
first-other w [] (suc n) short some = absurd (omega (arith, some))
first-other zero (b ∷ bs) n short some = absurd (omega (arith, short))
first-other (suc w) (b ∷ bs) zero short some = first-one (is_other b) w (others_of bs) (next_other bs zero) some (first-other w bs zero (omega (arith, short)))
first-other (suc w) (b ∷ bs) (suc n) short some = trailing-double w (others_from bs n) ∙ ap suc (first-other w bs n (omega (arith, short)) (omega (arith, some)))

-- the lowest bit taken out
even-cleared : (m : ℕ) → 0 < m → bit_and (2 * m) (2 * m - 1) ≡ 2 * bit_and m (m - 1)
even-cleared m some =
    let left : 2 * m ≡ m * 2 ^ 1 + 0 = omega arith in
    let right : 2 * m - 1 ≡ (m - 1) * 2 ^ 1 + 1 = omega (arith, some) in
    ap (λ x. bit_and x (2 * m - 1)) left ∙ ap (bit_and (m * 2 ^ 1 + 0)) right ∙ and_block 1 m (m - 1) 0 1 (omega arith) (omega arith) ∙ omega arith

odd-cleared : (m : ℕ) → bit_and (1 + 2 * m) (1 + 2 * m - 1) ≡ 2 * m
odd-cleared m =
    let left : 1 + 2 * m ≡ m * 2 ^ 1 + 1 = omega arith in
    let right : 1 + 2 * m - 1 ≡ m * 2 ^ 1 + 0 = omega arith in
    ap (λ x. bit_and x (1 + 2 * m - 1)) left ∙ ap (bit_and (m * 2 ^ 1 + 1)) right ∙ and_block 1 m m 1 0 (omega arith) (omega arith) ∙ omega (arith, and_self m)

one-cleared : (o : Bool) (m : ℕ) (bs : List ℕ) (next : ℕ) → 0 < cond o 1 0 + 2 * m → m ≡ others_of bs → (0 < m → bit_and m (m - 1) ≡ others_from bs (next + 1))
    → (b : ℕ) → bit_and (cond o 1 0 + 2 * m) (cond o 1 0 + 2 * m - 1) ≡ others_from (b ∷ bs) (cond o 0 (suc next) + 1)
one-cleared true m bs next some is rest b =
    let one : 0 + 1 ≡ suc zero = omega arith in
    odd-cleared m ∙ ap (λ k. 2 * k) is ∙ ap (others_from (b ∷ bs)) (sym one)
one-cleared false m bs next some is rest b =
    let same : cond false 1 0 + 2 * m ≡ 2 * m = omega arith in
    let more : suc next + 1 ≡ suc (next + 1) = omega arith in
    ap (λ k. bit_and k (k - 1)) same ∙ even-cleared m (omega (arith, some)) ∙ ap (λ k. 2 * k) (rest (omega (arith, some))) ∙ ap (others_from (b ∷ bs)) (sym more)

first-cleared : (bs : List ℕ) (n : ℕ) → 0 < others_from bs n → bit_and (others_from bs n) (others_from bs n - 1) ≡ others_from bs (next_other bs n + 1)
first-cleared [] zero some = absurd (omega (arith, some))
first-cleared [] (suc n) some = absurd (omega (arith, some))
first-cleared (b ∷ bs) zero some = one-cleared (is_other b) (others_of bs) bs (next_other bs zero) some refl (first-cleared bs zero) b
first-cleared (b ∷ bs) (suc n) some =
    let more : suc (next_other bs n) + 1 ≡ suc (next_other bs n + 1) = omega arith in
    even-cleared (others_from bs n) (omega (arith, some)) ∙ ap (λ k. 2 * k) (first-cleared bs n (omega (arith, some))) ∙ ap (others_from (b ∷ bs)) (sym more)

-- what stands before it
abbrev IsReach : List ℕ → ℕ → ℕ → Type 0
IsReach bs n next = (n ≤ next) × (next < length bs) × (list_all is_ascii_digit (take (next - n) (drop n bs)) ≡ true)

one-reached : (b : ℕ) (bs : List ℕ) (d : Bool) (m next : ℕ) → is_ascii_digit b ≡ d → 0 < cond (not d) 1 0 + 2 * m → (0 < m → IsReach bs 0 next) → IsReach (b ∷ bs) 0 (cond (not d) 0 (suc next))
one-reached b bs true m next is some rest =
    let r = rest (omega (arith, some)) in
    let less : suc next - 0 ≡ suc (next - 0) = omega arith in
    (omega arith, omega (arith, r.1), ap (λ k. list_all is_ascii_digit (take k (b ∷ bs))) less ∙ ap (λ t. t && list_all is_ascii_digit (take (next - 0) bs)) is ∙ r.2)
one-reached b bs false m next is some rest = (omega arith, omega arith, refl)

first-reached : (bs : List ℕ) (n : ℕ) → 0 < others_from bs n → IsReach bs n (next_other bs n)
first-reached [] zero some = absurd (omega (arith, some))
first-reached [] (suc n) some = absurd (omega (arith, some))
first-reached (b ∷ bs) zero some = one-reached b bs (is_ascii_digit b) (others_of bs) (next_other bs zero) refl some (first-reached bs zero)
first-reached (b ∷ bs) (suc n) some =
    let r = first-reached bs n (omega (arith, some)) in
    let less : suc (next_other bs n) - suc n ≡ next_other bs n - n = omega arith in
    (omega (arith, r.0), omega (arith, r.1), ap (λ k. list_all is_ascii_digit (take k (drop n bs))) less ∙ r.2)

-- ---- the same of a window
pub record IsEnd (window : List ℕ) (start others end : ℕ) : Type 0 where
  pub behind : start ≤ end
  pub within : end < 64
  pub digits : list_all is_ascii_digit (take (end - start) (drop start window)) ≡ true
  pub next : bit_and others (others - 1) ≡ others_from (take 64 window) (end + 1)

pub end-at : (window : List ℕ) (start others end : ℕ) → length window ≡ 80 → others ≡ others_from (take 64 window) start → others ≢ 0 → end ≡ count_trailing_zeros 64 others → IsEnd window start others end
end-at window start others end scratch is some at =
    let front : List ℕ = take 64 window in
    let long : length front ≡ 64 = length-take-le 64 window (omega (arith, scratch)) in
    let more : 0 < others_from front start = omega (arith, is, some) in
    let position : end ≡ next_other front start = at ∙ ap (count_trailing_zeros 64) is ∙ first-other 64 front start (omega (arith, long)) more in
    let reach = subst (IsReach front start) (sym position) (first-reached front start more) in
    let left : ℕ = 64 - start in
    let whole : 64 ≡ start + left = omega (arith, reach.0, reach.1, long) in
    let cut : drop start front ≡ take left (drop start window) = ap (λ n. drop start (take n window)) whole ∙ drop-take start left window in
    let same : take (end - start) (drop start front) ≡ take (end - start) (drop start window) = ap (take (end - start)) cut ∙ take-take (end - start) left (drop start window) (omega (arith, reach.1, long)) in
    record {
      behind = reach.0;
      within = omega (arith, reach.1, long);
      digits = ap (list_all is_ascii_digit) (sym same) ∙ reach.2;
      next = ap (λ k. bit_and k (k - 1)) is ∙ first-cleared front start more ∙ ap (λ k. others_from front (k + 1)) (sym position);
    }
