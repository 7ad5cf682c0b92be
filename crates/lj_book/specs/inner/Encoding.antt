-- Numbers as words of four bytes, and how they are read again.
use Rattle.std.specs.Prelude.{◌≡◌, ℕ, zero, suc, ◌+◌, ◌*◌, ◌%◌, ◌/◌, List, [], ◌∷◌, ◌++◌, length, flat_map, nat_lt, if◌then◌else◌}
use Rattle.lj_clause.specs.Rat.{HintGroup}

-- the word that stands before a number which takes two words
abbrev pub long_mark : ℕ
long_mark = 4294967295

-- the words of a number: one, or the mark with its lower and its upper half
abbrev pub number_encoding : ℕ → List ℕ
number_encoding n = if nat_lt n long_mark then n ∷ []
    else long_mark ∷ n % 4294967296 ∷ n / 4294967296 ∷ []

-- the number of two words at the front, and the words behind it
abbrev pub long_in : List ℕ → ℕ × List ℕ
long_in [] = (0, [])
long_in (low ∷ []) = (0, [])
long_in (low ∷ high ∷ ws) = (low + 4294967296 * high, ws)

-- the number at the front of these words, and the words behind it
abbrev pub number_in : List ℕ → ℕ × List ℕ
number_in [] = (0, [])
number_in (w ∷ ws) = if nat_lt w long_mark then (w, ws) else long_in ws

abbrev pub with_first : {A : Type 0} → A → List A × List ℕ → List A × List ℕ
with_first a read = (a ∷ read.0, read.1)

-- so many values at the front of these words, each read so, and the words behind them
abbrev pub many_in : {A : Type 0} → (List ℕ → A × List ℕ) → ℕ → List ℕ → List A × List ℕ
many_in one zero ws = ([], ws)
many_in one (suc n) ws = with_first (one ws).0 (many_in one n (one ws).1)

-- the values as far as they were read, and what is read behind them
abbrev pub read_behind : {A : Type 0} → List A → List A × List ℕ → List A × List ℕ
read_behind front read = (front ++ read.0, read.1)

-- the words of a list of numbers: those of its length, and then of each number
abbrev pub list_encoding : List ℕ → List ℕ
list_encoding ns = number_encoding (length ns) ++ flat_map number_encoding ns

abbrev pub list_in : List ℕ → List ℕ × List ℕ
list_in ws = many_in number_in (number_in ws).0 (number_in ws).1

abbrev pub hint_group_encoding : HintGroup → List ℕ
hint_group_encoding g = number_encoding g.candidate ++ list_encoding g.hints

-- a group by its candidate, and its list and what stands behind it
abbrev pub grouped : ℕ → List ℕ × List ℕ → HintGroup × List ℕ
grouped candidate read = (record { candidate = candidate; hints = read.0 }, read.1)

abbrev pub hint_group_in : List ℕ → HintGroup × List ℕ
hint_group_in ws = grouped (number_in ws).0 (list_in (number_in ws).1)

-- the words of a list of groups: those of its length, and then of each group
abbrev pub hint_groups_encoding : List HintGroup → List ℕ
hint_groups_encoding gs = number_encoding (length gs) ++ flat_map hint_group_encoding gs

abbrev pub hint_groups_in : List ℕ → List HintGroup × List ℕ
hint_groups_in ws = many_in hint_group_in (number_in ws).0 (number_in ws).1

-- how many numbers stand in the words of a group, and in those of groups
abbrev pub group_numbers : HintGroup → ℕ
group_numbers g = 2 + length g.hints

abbrev pub groups_numbers : List HintGroup → ℕ
groups_numbers [] = 0
groups_numbers (g ∷ gs) = group_numbers g + groups_numbers gs

-- What is read as a whole is what is wanted exactly where the rest of the words have what is left of it.
pub record Matches {A : Type 0} (one : List ℕ → A × List ℕ) (whole : List A × List ℕ)
    (wanted : List A) (rest : List ℕ) (left : List A) : Type 0 where
  pub same : (many_in one (length left) rest).0 ≡ left
      → whole ≡ (wanted, (many_in one (length left) rest).1)
  pub other : whole.0 ≡ wanted → (many_in one (length left) rest).0 ≡ left
