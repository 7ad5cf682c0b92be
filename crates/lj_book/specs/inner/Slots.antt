-- How a map from numbers is kept: in slots by number, and in a tree beside them.
use Rattle.std.specs.Prelude.{◌≡◌, ◌≤◌, ℕ, suc, Bool, true, if◌then◌else◌, List, [], ◌∷◌, ◌++◌, ◌+◌, ◌==◌, map, Option, Some, None, is_some}
use Rattle.std.specs.Ordering.{nat_cmp}
use Rattle.std.specs.FinMap as fin

-- the entries of slots, the first of which stands for this number
abbrev pub slot_entries : {V : Type 0} → ℕ → List (Option V) → List (ℕ × V)
slot_entries n [] = []
slot_entries n (None ∷ slots) = slot_entries (suc n) slots
slot_entries n (Some v ∷ slots) = (n, v) ∷ slot_entries (suc n) slots

-- the map that slots from 0 on make
abbrev pub slot_map : {V : Type 0} → List (Option V) → fin.FinMap nat_cmp V
slot_map slots = fin.from_entries (slot_entries 0 slots)

-- the map of the values that slots hold
abbrev pub held_map : {S V : Type 0} → (S → Option V) → List S → fin.FinMap nat_cmp V
held_map held slots = slot_map (map held slots)

-- the number that one of four bytes stands for: none where it is 0
abbrev pub u32_held : ℕ → Option ℕ
u32_held n = if n == 0 then None else Some n

-- the entries of two maps in one
abbrev pub joined_map : {V : Type 0} → fin.FinMap nat_cmp V → fin.FinMap nat_cmp V
    → fin.FinMap nat_cmp V
joined_map dense sparse = fin.from_entries (fin.entries dense ++ fin.entries sparse)

-- the map in which each number is so much greater
abbrev pub shifted : {V : Type 0} → ℕ → fin.FinMap nat_cmp V → fin.FinMap nat_cmp V
shifted by m = fin.from_entries (map (λ e. (by + e.0, e.1)) (fin.entries m))

-- no number is in both maps
abbrev pub AreDisjoint : {V : Type 0} → fin.FinMap nat_cmp V → fin.FinMap nat_cmp V → Type 0
AreDisjoint dense sparse = (q : ℕ) → is_some (fin.get dense q) ≡ true → fin.get sparse q ≡ None

-- every number of the map is below the end
abbrev pub AreBefore : {V : Type 0} → ℕ → fin.FinMap nat_cmp V → Type 0
AreBefore end m = (q : ℕ) → end ≤ q → fin.get m q ≡ None

-- the numbers of the slots whose value passes the test
abbrev pub slot_numbers : {V : Type 0} → (V → Bool) → ℕ → List (Option V) → List ℕ
slot_numbers test n [] = []
slot_numbers test n (None ∷ slots) = slot_numbers test (suc n) slots
slot_numbers test n (Some v ∷ slots) = if test v then n ∷ slot_numbers test (suc n) slots
    else slot_numbers test (suc n) slots
