-- Literals (DIMACS). A literal is a nonzero whole number: v is the variable v, -v its negation, which is `neg_ℤ`.
use Rattle.std.specs.Prelude.{ℕ, ◌+◌, ◌*◌, ◌<◌, ◌≤◌, ℤ, pos, negsuc, suc, neg_ℤ, Bool, if◌then◌else◌}
use Rattle.std.specs.declared.cmp.Ordering.{Ordering}
use Rattle.std.specs.Ordering.{nat_cmp}
use Rattle.lj_clause.specs.declared.lit.TheConstants.{MAX_VARIABLE}

-- the variable that a literal speaks of
abbrev pub variable_of : ℤ → ℕ
variable_of (pos n) = n
variable_of (negsuc n) = suc n

-- a nonzero whole number within the limit of variables
abbrev pub IsLiteral : ℤ → Type 0
IsLiteral l = (0 < variable_of l) × (variable_of l ≤ MAX_VARIABLE)

-- the literal of a variable, or its negation
abbrev pub literal_on : ℕ → Bool → ℤ
literal_on variable negative = if negative then neg_ℤ (pos variable) else pos variable

-- the place of a literal in the order of literals
abbrev pub index_of : ℤ → ℕ
index_of (pos n) = 2 * n
index_of (negsuc n) = 2 * n + 3

-- literals are ordered by variable, and for one variable the positive literal comes first
abbrev pub lit_cmp : ℤ → ℤ → Ordering
lit_cmp a b = nat_cmp (index_of a) (index_of b)
