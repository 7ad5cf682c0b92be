-- Groups in one row of numbers.
use Rattle.std.specs.Prelude.{◌≡◌, ℕ, zero, suc, List, [], ◌∷◌, ◌++◌, length, take, drop, Option, Some, None, Box, get_or}
use Rattle.lj_clause.specs.Rat.{HintGroup}
use Rattle.std.specs.declared.alloc.Global.{Global}

-- the numbers of groups: for each its candidate, how many hints it has, and they
abbrev pub in_a_row : List HintGroup → List ℕ
in_a_row [] = []
in_a_row (g ∷ gs) = g.candidate ∷ length g.hints ∷ g.hints ++ in_a_row gs

-- so many groups, whose numbers stand at the front of a row
abbrev pub groups_in_row : ℕ → List ℕ → List HintGroup
groups_in_row zero ns = []
groups_in_row (suc k) [] = []
groups_in_row (suc k) (c ∷ []) = []
groups_in_row (suc k) (c ∷ n ∷ ns) = record { candidate = c; hints = take n ns }
    ∷ groups_in_row k (drop n ns)

-- the group at the front of numbers, and one of nothing where there are none
abbrev pub front_group : List ℕ → HintGroup
front_group ns = record { candidate = get_or ns 0 0; hints = take (get_or ns 1 0) (drop 2 ns) }

-- the group whose numbers begin at a place of a row
abbrev pub group_from : List ℕ → ℕ → HintGroup
group_from ns start = front_group (drop start ns)

-- what stands in a box, or this where there is none
abbrev pub boxed_or : {A : Type 0} → A → Option (Box A Global) → A
boxed_or a None = a
boxed_or a (Some b) = b.value

-- numbers are those of so many groups, and nothing else
abbrev pub IsRow : ℕ → List ℕ → Type 0
IsRow count ns = (in_a_row (groups_in_row count ns) ≡ ns) × (length (groups_in_row count ns) ≡ count)
