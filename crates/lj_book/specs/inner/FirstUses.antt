-- From which numbers on great variables are used.
use Rattle.std.specs.Prelude.{◌≡◌, ℕ, ◌<◌, ◌≤◌, ℤ, true, Some}
use Rattle.std.specs.List.{AllByRecursion}
use Rattle.std.specs.FinMap as fin
use Rattle.lj_clause.specs.Literal.{variable_of}
use Rattle.lj_clause.specs.LiteralSet.{LiteralSet, holds}
use Rattle.lj_clause.specs.ClauseMap.{ClauseMap}
use Rattle.lj_book.specs.declared.first_uses.FirstUse.{FirstUse}
use Rattle.lj_book.specs.declared.first_uses.FirstUses.{FirstUses}

-- no clause before this number holds the literal
abbrev pub IsSince : ClauseMap → ℤ → ℕ → Type 0
IsSince p l from = (n : ℕ) (c : LiteralSet) → fin.get p n ≡ Some c → holds c l ≡ true → from ≤ n

-- no clause before this number holds a literal of a variable above
abbrev pub AreAfter : ClauseMap → ℕ → ℕ → Type 0
AreAfter p above from = (l : ℤ) → above < variable_of l → IsSince p l from

-- Clauses hold variables above the bound from the number on, which was given.
pub record IsFirstUse (p : ClauseMap) (last : ℕ) (u : FirstUse) : Type 0 where
  pub after : AreAfter p u.above u.from
  pub given : u.from ≤ last

-- No clause holds a greater variable, and the first uses are those of the clauses.
pub record AreFirstUses (p : ClauseMap) (last : ℕ) (uses : FirstUses) : Type 0 where
  pub within : (n : ℕ) (c : LiteralSet) (l : ℤ) → fin.get p n ≡ Some c → holds c l ≡ true
      → variable_of l ≤ uses.top
  pub each : AllByRecursion (IsFirstUse p last) uses.list.items
