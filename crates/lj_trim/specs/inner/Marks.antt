-- The numbers that are marked.
use Rattle.std.specs.Prelude.{◌≡◌, ℕ, ◌≤◌, Bool, true, false, nat_lt, List, length, slice_index_or, if◌then◌else◌}
use Rattle.std.specs.List.{AllByRecursion}
use Rattle.std.specs.Ordering.{nat_cmp}
use Rattle.std.specs.BTreeSet.{contains}
use Rattle.lj_text.specs.declared.line.Addition.{Addition}
use Rattle.lj_text.specs.Needed.{NumberSet, has, all_hints}
use Rattle.lj_trim.specs.declared.marks.Marks.{Marks}

abbrev pub is_marked : Marks → ℕ → Bool
is_marked m n = if nat_lt n (length m.dense.items) then slice_index_or m.dense.items n false
    else contains nat_cmp m.sparse n

abbrev pub AreMarked : Marks → List ℕ → Type 0
AreMarked m ns = AllByRecursion (λ n. is_marked m n ≡ true) ns

-- what is marked is marked later too
abbrev pub Grows : Marks → Marks → Type 0
Grows m k = (n : ℕ) → is_marked m n ≡ true → is_marked k n ≡ true

-- what is marked is in the set
abbrev pub IsWithin : Marks → NumberSet → Type 0
IsWithin m s = (n : ℕ) → is_marked m n ≡ true → has s n ≡ true

abbrev pub HasAll : NumberSet → List ℕ → Type 0
HasAll s ns = AllByRecursion (λ n. has s n ≡ true) ns

-- These numbers were marked, and no other.
pub record Marked (before after : Marks) (ns : List ℕ) : Type 0 where
  pub grows : Grows before after
  pub all : AreMarked after ns
  pub only : (s : NumberSet) → IsWithin before s → HasAll s ns → IsWithin after s

-- with the number of an addition all its hints are marked, or in the set
abbrev pub IsCovered : Marks → Addition → Type 0
IsCovered m a = is_marked m a.number ≡ true → AreMarked m (all_hints a)

abbrev pub Covers : NumberSet → Addition → Type 0
Covers s a = has s a.number ≡ true → HasAll s (all_hints a)

-- The hints of the additions with a marked number were marked, and the other additions are still open.
pub record Passed (before after : Marks) (begun still : List Addition) : Type 0 where
  pub grows : Grows before after
  pub only : (s : NumberSet) → IsWithin before s → AllByRecursion (Covers s) begun
      → IsWithin after s
  pub closes : (m : Marks) → Grows after m → AllByRecursion (IsCovered m) still
      → AllByRecursion (IsCovered m) begun
  pub stays : (s : NumberSet) → AllByRecursion (Covers s) begun → AllByRecursion (Covers s) still
  pub fewer : length still ≤ length begun
  -- where all are still open, none of them has a marked number
  pub idle : length still ≡ length begun
      → AllByRecursion (λ (a : Addition). is_marked after a.number ≡ false) still
