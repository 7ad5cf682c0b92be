-- Words of eight bytes.
use Rattle.std.specs.Prelude.{Bool, ℕ, zero, suc, not, map, ◌+◌, ◌-◌, ◌*◌, ◌%◌, ◌^◌, ◌<◌, ◌≤◌, List, [], ◌∷◌, length, take}
use Rattle.std.specs.Char.{is_ascii_digit}
use Rattle.std.specs.Int.RustNames.{bit_xor}
use Rattle.std.specs.List.{AllByRecursion}
use Rattle.std.specs.Simd.Lanes.{mask_l}

-- a byte that is no digit
abbrev pub is_other : ℕ → Bool
is_other b = not (is_ascii_digit b)

-- the word whose bits, the lowest first, tell which bytes are no digits
abbrev pub others_of : List ℕ → ℕ
others_of bs = mask_l (map is_other bs)

-- the same without the bits of the first bytes, so many
abbrev pub others_from : List ℕ → ℕ → ℕ
others_from bs zero = others_of bs
others_from [] (suc n) = 0
others_from (b ∷ bs) (suc n) = 2 * others_from bs n

-- the word with these bytes, the lowest first
abbrev pub number_in_token : List ℕ → ℕ
number_in_token [] = 0
number_in_token (b ∷ bs) = b + 256 * number_in_token bs

-- the number with these digits, the highest first
abbrev pub number_of_counts : List ℕ → ℕ
number_of_counts [] = 0
number_of_counts (d ∷ ds) = d * 10 ^ length ds + number_of_counts ds

-- what a byte holds
abbrev pub AreBytes : List ℕ → Type 0
AreBytes bs = AllByRecursion (λ b. b < 256) bs

-- digits as they are counted
abbrev pub AreCounts : List ℕ → Type 0
AreCounts ds = AllByRecursion (λ d. d ≤ 9) ds

-- the first n of eight bytes as the upper ones of a word, each as far as it is behind the digit 0
abbrev pub moved_up : List ℕ → ℕ → ℕ
moved_up bytes n = (bit_xor (number_in_token (take 8 bytes)) 3472328296227680304 * 2 ^
    (64 - 8 * n)) % 18446744073709551616
