-- How the readers hold a number: exactly up to the greatest, and no further.
use Rattle.std.specs.Prelude.{◌≡◌, ℕ, suc, ◌+◌, ◌*◌, ◌^◌, ◌<◌, ◌≤◌, true, List, [], ◌∷◌, ◌++◌, length, Option, None, Some, ℤ, pos, negsuc, unsigned_abs, ◌⊎◌}
use Rattle.std.specs.List.{list_all}
use Rattle.std.specs.Char.{is_ascii_digit}
use Rattle.lj_text.specs.declared.bytes.digits.TokenNumber.{TokenNumber}
use Rattle.lj_text.specs.declared.bytes.digits.TokenNumber.TheVariants as values
use Rattle.lj_text.specs.Bytes.{decimal_value, is_blank, number_of, tokens_of}
use Rattle.lj_text.specs.Lines.{greatest}
use Rattle.lj_text.specs.inner.LineReading.{token_numbers}

-- m is n, or both are above the greatest number
abbrev pub Counts : ℕ → ℕ → Type 0
Counts m n = (m ≤ greatest → n ≡ m) × (greatest < m → greatest < n)

-- what is held of a token's number
abbrev pub IsTokenNumber : TokenNumber → Option ℤ → Type 0
IsTokenNumber values.NoNumber number = number ≡ None
IsTokenNumber values.Zero number = number ≡ Some (pos 0)
IsTokenNumber (values.Positive n) number = (number ≡ Some (pos n)) × (0 < n) × (n ≤ greatest)
IsTokenNumber (values.Negative n) number = (k : ℕ) × (number ≡ Some (negsuc k)) × (n ≡ suc k)
    × (n ≤ greatest)
IsTokenNumber values.Beyond number = (z : ℤ) × (number ≡ Some z) × (greatest < unsigned_abs z)

-- what is held of the first of a line's tokens, and what follows that token
abbrev pub BeginsTokenNumber : List ℕ → TokenNumber → List ℕ → Type 0
BeginsTokenNumber bytes token_number after = (number : Option ℤ)
    × (token_numbers bytes ≡ number ∷ token_numbers after)
    × IsTokenNumber token_number number

-- the first of a line's tokens, what is held of its number, and what follows it
abbrev pub BeginsToken : List ℕ → TokenNumber → List ℕ → Type 0
BeginsToken bytes token_number after = (token : List ℕ)
    × (tokens_of bytes ≡ token ∷ tokens_of after)
    × IsTokenNumber token_number (number_of token)

-- bytes are a token's first, and then its end: nothing, or a blank and what follows
abbrev pub EndsToken : List ℕ → List ℕ → List ℕ → Type 0
EndsToken bytes front after = ((bytes ≡ front) × (after ≡ []))
    ⊎ ((blank : ℕ) × (is_blank blank ≡ true) × (bytes ≡ front ++ blank ∷ after))

-- Behind a first digit stand the other digits of a number, and then its token ends.
pub record IsNumberAhead (first : ℕ) (bytes : List ℕ) (value : ℕ) (after : List ℕ) : Type 0 where
  pub digits : List ℕ
  pub are_digits : list_all is_ascii_digit digits ≡ true
  pub value_is : value ≡ first * 10 ^ length digits + decimal_value digits
  pub small : value ≤ greatest
  pub ends : EndsToken bytes digits after
