-- How often a joint number is held.
use Rattle.std.specs.Prelude.{◌≡◌, ℕ, zero, suc, ◌+◌, ◌==◌, List, [], ◌∷◌, replicate, Option, Some, None, if◌then◌else◌}
use Rattle.std.specs.FinMap as fin
use Rattle.lj_book.specs.Tables.{Table, Tables}

-- how often the number stands in the list
abbrev pub occurrences : List ℕ → ℕ → ℕ
occurrences [] n = 0
occurrences (m ∷ ms) n = (if m == n then 1 else 0) + occurrences ms n

-- how many own numbers of the table are bound to the joint number
abbrev pub count_in : Option Table → ℕ → ℕ
count_in None joint = 0
count_in (Some t) joint = occurrences (fin.values t) joint

-- how many own numbers of all tables are
abbrev pub holders_of : Tables → ℕ → ℕ
holders_of [] joint = 0
holders_of (t ∷ ts) joint = count_in t joint + holders_of ts joint

-- what a map of counts says of a number: none where it has nothing
abbrev pub count_or_none : Option ℕ → ℕ
count_or_none None = 0
count_or_none (Some n) = n

-- counts in slots, and in a map what goes beyond these
abbrev pub Counted : Type 0
Counted = List ℕ × Table

-- what stands in a slot: none behind the last one
abbrev pub slot_count : List ℕ → ℕ → ℕ
slot_count [] n = 0
slot_count (c ∷ cs) zero = c
slot_count (c ∷ cs) (suc n) = slot_count cs n

abbrev pub count_beyond : Table → ℕ → ℕ
count_beyond m n = count_or_none (fin.get m n)

abbrev pub count_at : Counted → ℕ → ℕ
count_at counts n = slot_count counts.0 n + count_beyond counts.1 n

-- each count is that of the tables
abbrev pub AreHolders : Tables → Counted → Type 0
AreHolders tables counts = (joint : ℕ) → count_at counts joint ≡ holders_of tables joint

-- one for the joint number that is there, and none for others
abbrev pub one_if_at : Option ℕ → ℕ → ℕ
one_if_at None joint = 0
one_if_at (Some n) joint = if n == joint then 1 else 0

-- the same count at each number from 1 to this one
abbrev pub all_up_to : ℕ → ℕ → Counted
all_up_to last count = (0 ∷ replicate last count, fin.empty)
