-- Stamps of literals by their place.
use Rattle.std.specs.Prelude.{◌≡◌, ℕ, nat_lt, if◌then◌else◌, ◌<◌, ◌≤◌, ◌==◌, List, ℤ, pos, neg_ℤ, false, length, take, slice_index, slice_index_or, unwrap_or}
use Rattle.std.specs.Map.{lookup}
use Rattle.std.specs.BTreeMap.{is_at}
use Rattle.std.specs.Ordering.{nat_cmp}
use Rattle.lj_clause.specs.Literal.{index_of}
use Rattle.lj_clause.specs.LiteralSet.{holds, from_literals}

-- the stamps of the first places, and those of others with their places
abbrev pub Stamped : Type 0
Stamped = List ℕ × List (ℕ × ℕ)

-- the stamp at a place: 0 where none was set
unfoldable pub stamp_at : Stamped → ℕ → ℕ
stamp_at stamps index = if nat_lt index (length stamps.0) then slice_index stamps.0 index
    else unwrap_or (lookup (is_at (nat_cmp index)) stamps.1) 0

-- The literals whose negation has the current stamp at its place are those of the trail, in which each stands once. So
-- whoever asks for the negations of many literals, as a propagation does, reads at their own places.
pub record AreAssigned (stamps : Stamped) (stamp : ℕ) (trail : List ℤ) : Type 0 where
  pub some : 0 < stamp
  pub greatest : (index : ℕ) → stamp_at stamps index ≤ stamp
  pub marked : (l : ℤ) → (stamp_at stamps (index_of (neg_ℤ l)) == stamp)
      ≡ holds (from_literals trail) l
  pub once : (k : ℕ) → k < length trail
      → holds (from_literals (take k trail)) (slice_index_or trail k (pos 0)) ≡ false
