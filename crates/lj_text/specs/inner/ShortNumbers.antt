-- What is read of a line's front, whatever follows it on its line.
use Rattle.std.specs.Prelude.{◌≡◌, ◌≢◌, ℕ, ◌<◌, ◌^◌, Bool, false, true, List, ◌∷◌, ◌++◌, Some, ℤ}
use Rattle.std.specs.List.{list_all}
use Rattle.std.specs.Char.{is_ascii_digit}
use Rattle.std.specs.Str.{byte}
use Rattle.lj_text.specs.Bytes.{decimal_value, is_blank, is_filled, number_of, tokens_of}
use Rattle.lj_text.specs.Lines.{literals_then}
use Rattle.lj_text.specs.LinesRead.{HasNoLineEnd}
use Rattle.lj_text.specs.inner.LineReading.{IsReadOn, behind_literals, token_numbers}

-- A number of few digits stands at the front, and then a space.
pub record IsShortNumber (bytes : List ℕ) (value : ℕ) (after : List ℕ) : Type 0 where
  pub digits : List ℕ
  pub some : is_filled digits ≡ true
  pub are_digits : list_all is_ascii_digit digits ≡ true
  pub value_is : value ≡ decimal_value digits
  pub small : value < 10 ^ 9
  pub bytes_is : bytes ≡ digits ++ byte " " ∷ after

-- A token stands at the front of a line, and says this number.
pub record IsTokenAhead (bytes : List ℕ) (number : ℤ) (after : List ℕ) : Type 0 where
  pub front : List ℕ
  pub token : List ℕ
  pub bytes_is : bytes ≡ front ++ after
  pub none_within : HasNoLineEnd front
  pub tokens_are : (tail : List ℕ) → tokens_of (front ++ tail) ≡ token ∷ tokens_of tail
  pub number_is : number_of token ≡ Some number

-- Numbers stand at the front of a line, and were read behind others.
pub record AreNumbersAhead (old : List ℕ) (bytes : List ℕ) (new : List ℕ)
    (rest : List ℕ) : Type 0 where
  pub front : List ℕ
  pub bytes_is : bytes ≡ front ++ rest
  pub none_within : HasNoLineEnd front
  pub read : (tail : List ℕ) → IsReadOn old (front ++ tail) new tail

-- Literals stand at the front of a line, and were read behind others.
pub record AreLiteralsAhead (max : ℕ) (old : List ℤ) (bytes : List ℕ) (new : List ℤ)
    (rest : List ℕ) : Type 0 where
  pub front : List ℕ
  pub bytes_is : bytes ≡ front ++ rest
  pub none_within : HasNoLineEnd front
  pub read : (ended : Bool) (tail : List ℕ)
      → behind_literals new (literals_then max ended (token_numbers tail))
      ≡ behind_literals old (literals_then max ended (token_numbers (front ++ tail)))

-- A line stands at the front that a line feed ends, and what is said of it is true.
pub record BeginsByLine (IsRight : List ℕ → Type 0) (bytes after : List ℕ) : Type 0 where
  pub line : List ℕ
  pub bytes_is : bytes ≡ line ++ byte "\n" ∷ after
  pub none_within : HasNoLineEnd line
  pub right : IsRight line

-- A byte begins no letter, as a number's first byte doesn't, and ends nothing.
pub record BeginsNumber (b : ℕ) : Type 0 where
  pub no_blank : is_blank b ≡ false
  pub no_end : b ≢ byte "\n"
  pub no_d : b ≢ byte "d"
  pub no_i : b ≢ byte "i"
