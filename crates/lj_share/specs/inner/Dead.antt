-- Own numbers that deletions of a run name.
use Rattle.std.specs.Prelude.{◌≡◌, ◌%◌, ◌||◌, ℕ, Bool, true, false, if◌then◌else◌, List, [], ◌∷◌, Some, slice_get}
use Rattle.std.specs.Ordering.{nat_cmp}
use Rattle.std.specs.FinMap as fin
use Rattle.lj_book.specs.Tables.{is_among}
use Rattle.lj_text.specs.declared.line.Line.{Line}
use Rattle.lj_text.specs.declared.line.Line.TheVariants as lines
use Rattle.lj_share.specs.declared.numbered.Numbered.{Numbered}

-- Own numbers, as a set.
abbrev pub DeadValue : Type 0
DeadValue = fin.FinMap nat_cmp (Unit {0})

-- There is none.
abbrev pub AreNone : DeadValue → Type 0
AreNone d = (n : ℕ) → fin.contains_key d n ≡ false

-- Each number that is there has its flag, which others may share.
abbrev pub AreFlagged : List Bool → DeadValue → Type 0
AreFlagged flags d = (n : ℕ) → fin.contains_key d n ≡ true → slice_get flags (n % 4096) ≡ Some true

-- These numbers are there too.
abbrev pub AreWith : List ℕ → DeadValue → DeadValue → Type 0
AreWith numbers before after = (n : ℕ)
    → fin.contains_key after n ≡ (is_among numbers n || fin.contains_key before n)

-- These numbers aren't there any more.
abbrev pub AreWithout : List ℕ → DeadValue → DeadValue → Type 0
AreWithout numbers before after = (n : ℕ)
    → fin.contains_key after n ≡ (if is_among numbers n then false else fin.contains_key before n)

-- whether the line is a deletion that names the number
abbrev pub deletes : Line → ℕ → Bool
deletes (lines.Add a) n = false
deletes (lines.Delete numbers) n = is_among numbers n
deletes (lines.Import own c) n = false

-- whether a deletion among these lines names the number
abbrev pub is_deleted : List Numbered → ℕ → Bool
is_deleted [] n = false
is_deleted (l ∷ ls) n = deletes l.line n || is_deleted ls n

-- The numbers that deletions among these lines name are there, and no other.
abbrev pub AreDead : List Numbered → DeadValue → Type 0
AreDead ls d = (n : ℕ) → fin.contains_key d n ≡ is_deleted ls n

-- The numbers that the line deletes are there too.
abbrev pub AreDeadBehind : Line → DeadValue → DeadValue → Type 0
AreDeadBehind line before after = (n : ℕ)
    → fin.contains_key after n ≡ (deletes line n || fin.contains_key before n)

-- Deletions among these lines name all that are there.
abbrev pub AreDeleted : List Numbered → DeadValue → Type 0
AreDeleted ls d = (n : ℕ) → fin.contains_key d n ≡ true → is_deleted ls n ≡ true
