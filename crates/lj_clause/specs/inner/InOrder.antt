-- Few literals in order, and fillers behind them.
use Rattle.std.specs.Prelude.{◌≡◌, ◌-◌, ℕ, ℤ, List, ◌++◌, negsuc, length, take, drop, replicate}
use Rattle.std.specs.List.Sorted.{IsStrictlySortedBy}
use Rattle.lj_clause.specs.Literal.{lit_cmp}

-- the literal that fills up a list
abbrev pub filler : ℤ
filler = negsuc 134217726

-- The literals stand at the front, and fillers behind them.
abbrev pub IsFilledUp : List ℤ → List ℤ → Type 0
IsFilledUp lits scratch = scratch ≡ lits ++ replicate (length scratch - length lits) filler

-- The first literals, so many, are in strict order, and the others are fillers.
abbrev pub IsInOrder : ℕ → List ℤ → Type 0
IsInOrder count scratch = IsStrictlySortedBy lit_cmp (take count scratch)
    × (drop count scratch ≡ replicate (length scratch - count) filler)
