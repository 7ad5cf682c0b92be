-- Lines, tokens and numbers of a text. Source: the DIMACS CNF format; own where it is silent.
use Rattle.std.specs.Prelude.{ℕ, zero, suc, ◌+◌, ◌-◌, ◌*◌, ◌^◌, min, Bool, true, false, ◌&&◌, ◌||◌, ◌==◌, List, [], ◌∷◌, length, filter, Option, None, Some, option_map, option_and_then, ℤ, pos, negsuc, if◌then◌else◌}
use Rattle.std.specs.List.{list_all, slice_split}
use Rattle.std.specs.Char.{is_ascii_digit}
use Rattle.std.specs.Str.{byte}

-- space, tab and carriage return are blanks
abbrev pub is_blank : ℕ → Bool
is_blank b = b == byte " " || b == byte "\t" || b == byte "\r"

-- the line feed ends a line
abbrev pub is_line_end : ℕ → Bool
is_line_end b = b == byte "\n"

-- the lines of a text, cut at each line feed: the last of them is the one that no line feed ends
abbrev pub lines_of : List ℕ → List (List ℕ)
lines_of text = slice_split is_line_end text

-- a line's number, where n lines stand before it: from 1 on, and no further than a u64 counts
abbrev pub line_number : ℕ → ℕ
line_number n = min (n + 1) (2 ^ 64 - 1)

-- whether there is a byte
abbrev pub is_filled : List ℕ → Bool
is_filled [] = false
is_filled (b ∷ bs) = true

-- the tokens of a line: what stands between its blanks
abbrev pub tokens_of : List ℕ → List (List ℕ)
tokens_of line = filter is_filled (slice_split is_blank line)

-- a token begins with this byte
abbrev pub begins : ℕ → List ℕ → Bool
begins first [] = false
begins first (b ∷ bs) = b == first

-- a line without a token, or whose first token begins with `c`, says nothing
abbrev pub is_silent : List (List ℕ) → Bool
is_silent [] = true
is_silent (token ∷ tokens) = begins (byte "c") token

-- what digits write: each counts ten to the number of the digits after it
abbrev pub decimal_value : List ℕ → ℕ
decimal_value [] = 0
decimal_value (b ∷ bs) = (b - byte "0") * 10 ^ length bs + decimal_value bs

-- the value of one or more digits
abbrev pub digits_value : List ℕ → Option ℕ
digits_value bs = if is_filled bs && list_all is_ascii_digit bs then Some (decimal_value bs)
    else None

-- what follows a token's first byte
abbrev pub rest_of : List ℕ → List ℕ
rest_of [] = []
rest_of (b ∷ bs) = bs

-- there is no negative zero
abbrev pub negative : ℕ → Option ℤ
negative zero = None
negative (suc n) = Some (negsuc n)

-- the number that a token is, if it is one: digits, or `-` and digits
abbrev pub number_of : List ℕ → Option ℤ
number_of token = if begins (byte "-") token then
    option_and_then negative (digits_value (rest_of token)) else option_map pos (digits_value token)
