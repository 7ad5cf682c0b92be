-- Clauses that are parts of another one, by their first literals.
use Rattle.std.specs.Prelude.{ℕ, ℤ, nat_le, Bool, true, false, ◌&&◌, if◌then◌else◌, List, Option, Some, None, slice_get}
use Rattle.std.specs.List.{list_any}
use Rattle.std.specs.Ordering.{eq_by_cmp}
use Rattle.lj_clause.specs.Literal.{lit_cmp, index_of}
use Rattle.lj_clause.specs.LiteralSet.{LiteralSet, literals}
use Rattle.lj_clause.specs.ClauseMap.{ClauseMap}
use Rattle.lj_book.specs.Lookup.{is_part, numbers_where}

-- the place where the clauses with this first literal are listed, and the empty ones
abbrev pub first_key : Option ℤ → ℕ
first_key None = 1
first_key (Some l) = index_of l

-- whether the two are the same literal, or there is neither
abbrev pub is_first : Option ℤ → Option ℤ → Bool
is_first None None = true
is_first None (Some m) = false
is_first (Some l) None = false
is_first (Some l) (Some m) = eq_by_cmp lit_cmp m l

-- whether there is a clause, it has this first literal, and it is a part of c
abbrev pub begins_part : LiteralSet → Option ℤ → Option LiteralSet → Bool
begins_part c first None = false
begins_part c first (Some d) = is_first first (slice_get (literals d) 0) && is_part c d

-- the lesser of the numbers that there are
abbrev pub lesser : Option ℕ → Option ℕ → Option ℕ
lesser None other = other
lesser (Some n) None = Some n
lesser (Some n) (Some m) = if nat_le n m then Some n else Some m

-- whether it is one of these, or there is none
abbrev pub is_among_firsts : List ℤ → Option ℤ → Bool
is_among_firsts ls None = true
is_among_firsts ls (Some l) = list_any (eq_by_cmp lit_cmp l) ls

-- the least number of a part of c that is empty or begins with one of these literals
abbrev pub least_begun : ClauseMap → LiteralSet → List ℤ → Option ℕ
least_begun p c ls = slice_get
    (numbers_where (λ d. is_among_firsts ls (slice_get (literals d) 0) && is_part c d) p) 0
