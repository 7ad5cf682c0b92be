-- Only equal literals tie.
use Rattle.std.proofs.Common.{◌≡◌, ap, arith}
use Rattle.std.specs.Prelude.{ℤ, pos, negsuc, true}
use Rattle.std.specs.Ordering.{eq_by_cmp}
use Rattle.std.specs.Cmp.{Equal-is}
use Rattle.std.specs.FinMap.{IsAntisymmetric, nat_cmp-IsAntisymmetric}
use Rattle.lj_clause.specs.Literal.{index_of, lit_cmp}

-- two literals in one place are one
pub one_place : (a b : ℤ) → index_of a ≡ index_of b → a ≡ b
one_place (pos m) (pos n) e = ap pos (omega arith)
one_place (pos m) (negsuc n) e = absurd (omega arith)
one_place (negsuc m) (pos n) e = absurd (omega arith)
one_place (negsuc m) (negsuc n) e = ap negsuc (omega arith)

pub lit_cmp-antisymmetric : IsAntisymmetric lit_cmp
lit_cmp-antisymmetric a b e = one_place a b (nat_cmp-IsAntisymmetric (index_of a) (index_of b) e)

-- literals that the order doesn't tell apart are one
pub same_literal : (a b : ℤ) → eq_by_cmp lit_cmp a b ≡ true → a ≡ b
same_literal a b e = lit_cmp-antisymmetric a b ((Equal-is (lit_cmp a b)).0 e)
