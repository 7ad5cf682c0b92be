-- Clauses whose literals stand in one list.
use Rattle.std.specs.Prelude.{◌≡◌, ℕ, ◌+◌, ◌≤◌, ◌==◌, ℤ, List, map, length, Option, Some, None, if◌then◌else◌}
use Rattle.std.specs.List.Sorted.{IsStrictlySortedBy}
use Rattle.std.specs.Ordering.{nat_cmp}
use Rattle.std.specs.FinMap as fin
use Rattle.lj_clause.specs.Literal.{lit_cmp}
use Rattle.lj_clause.specs.LiteralSet.{LiteralSet, from_literals}
use Rattle.lj_clause.specs.ClauseMap.{ClauseMap}
use Rattle.lj_book.specs.declared.lit_range.LitRange.{LitRange}
use Rattle.lj_book.specs.declared.lit_range.U32Range.{U32Range}
use Rattle.lj_book.specs.inner.Records.{some_lits, Entries}
use Rattle.lj_book.specs.declared.first_uses.FirstUses.{FirstUses}
use Rattle.lj_book.specs.inner.FirstUses.{AreFirstUses}
use Rattle.lj_book.specs.inner.Occurrences.{Lists, AreIndexed}

-- the range that one in four bytes each stands for: none where its count is the greatest
abbrev pub u32_range : U32Range → Option LitRange
u32_range r = if r.count == 4294967295 then None else Some (record { start = r.start; count = r.count })

-- places under numbers
abbrev pub Ranges : Type 0
Ranges = fin.FinMap nat_cmp LitRange

-- the clause whose literals stand at a place
abbrev pub clause_in : List ℤ → LitRange → LiteralSet
clause_in lits p = from_literals (some_lits lits p.start p.count)

-- the clauses under the numbers of their places
abbrev pub stored : List ℤ → Ranges → ClauseMap
stored lits ranges = fin.from_entries (map (λ e. (e.0, clause_in lits e.1)) (fin.entries ranges))

-- The place lies within the literals, and they rise there.
pub record IsRange (lits : List ℤ) (p : LitRange) : Type 0 where
  pub within : p.start + p.count ≤ length lits
  pub rising : IsStrictlySortedBy lit_cmp (some_lits lits p.start p.count)

abbrev pub AreRanges : List ℤ → Ranges → Type 0
AreRanges lits ranges = (q : ℕ) (p : LitRange) → fin.get ranges q ≡ Some p → IsRange lits p

-- how many literals stand before those of a lemma's clause: its pivot, if it has one
abbrev pub pivots : Option ℤ → ℕ
pivots None = 0
pivots (Some p) = 1

-- A history, and the clauses that live.
pub record Recorded : Type 0 where
  pub history : Entries
  pub live : ClauseMap

-- The literals of each clause stand where its place says; the lists, if they are made, are those of the clauses, and so are the
-- first uses.
pub record AreRecorded (lits : List ℤ) (ranges : Ranges) (lists : Option Lists) (uses : FirstUses)
    (last : ℕ) : Type 0 where
  pub ranges_are : AreRanges lits ranges
  pub indexed : AreIndexed lists (stored lits ranges) last
  pub used : AreFirstUses (stored lits ranges) last uses
