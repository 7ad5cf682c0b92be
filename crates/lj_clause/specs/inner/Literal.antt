-- The order of literals is total.
use Rattle.std.specs.Cmp.{IsTotalOrder, on_total, nat_cmp_total}
use Rattle.lj_clause.specs.Literal.{index_of, lit_cmp}

pub lit_cmp_total : IsTotalOrder lit_cmp
lit_cmp_total = on_total index_of nat_cmp_total
