-- Occurrence lists: under the place of each literal the numbers of the clauses that hold it, and under 1,
-- which is no literal's place, those of the empty clauses.
use Rattle.std.specs.Prelude.{◌≡◌, ℕ, ◌+◌, ◌<◌, ◌≤◌, ◌==◌, Bool, true, false, List, [], ◌∷◌, ◌++◌, length, map, Option, Some, None, IfSome, if◌then◌else◌}
use Rattle.std.specs.List.Sorted.{IsStrictlySortedBy}
use Rattle.std.specs.Ordering.{nat_cmp}
use Rattle.std.specs.FinMap as fin
use Rattle.lj_clause.specs.Literal.{index_of}
use Rattle.lj_clause.specs.LiteralSet.{LiteralSet, literals}
use Rattle.lj_clause.specs.ClauseMap.{ClauseMap}
use Rattle.lj_book.specs.Tables.{is_among}

-- the places where a clause is listed: those of its literals, and 1 where it has none
abbrev pub keys_of : LiteralSet → List ℕ
keys_of c = if length (literals c) == 0 then 1 ∷ [] else map index_of (literals c)

-- a list of numbers under each place that has one
abbrev pub Lists : Type 0
Lists = fin.FinMap nat_cmp (List ℕ)

abbrev pub list_or_empty : Option (List ℕ) → List ℕ
list_or_empty None = []
list_or_empty (Some numbers) = numbers

-- the list under a place
abbrev pub list_at : Lists → ℕ → List ℕ
list_at m k = list_or_empty (fin.get m k)

-- the list with the number at its end, where it belongs there
abbrev pub put_if : Bool → List ℕ → ℕ → List ℕ
put_if true numbers n = numbers ++ n ∷ []
put_if false numbers n = numbers

-- the lists with the number at the end of that under a place
abbrev pub with_number : Lists → ℕ → ℕ → Lists
with_number m k n = fin.insert m k (list_at m k ++ n ∷ [])

-- Each list rises, and has no number from the bound on. Of the numbers that have a clause, it has exactly those whose
-- clause is listed there.
pub record AreOccurrences (m : Lists) (clause : ℕ → Option LiteralSet) (bound : ℕ) : Type 0 where
  pub rising : (k : ℕ) → IsStrictlySortedBy nat_cmp (list_at m k)
  pub below : (k n : ℕ) → is_among (list_at m k) n ≡ true → n < bound
  pub exact : (n : ℕ) (c : LiteralSet) → clause n ≡ Some c → (k : ℕ)
      → is_among (list_at m k) n ≡ is_among (keys_of c) k

-- The same of lists that may not be made yet.
abbrev pub AreListed : Option Lists → ClauseMap → ℕ → Type 0
AreListed lists p bound = IfSome lists (λ m. AreOccurrences m (fin.get p) bound)

-- No clause has a number beyond the last that was given, and the lists, if they are made, are those of the clauses.
pub record AreIndexed (lists : Option Lists) (p : ClauseMap) (last : ℕ) : Type 0 where
  pub given : (n : ℕ) → fin.contains_key p n ≡ true → n ≤ last
  pub listed : AreListed lists p (last + 1)
