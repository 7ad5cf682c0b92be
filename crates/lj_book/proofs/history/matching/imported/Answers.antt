use Rattle.std.proofs.Common.{◌≡◌, sym, subst, rules}
use Rattle.std.specs.Prelude.{ℤ, List}
use Rattle.std.specs.List.Sorted.{IsStrictlySortedBy}
use Rattle.lj_clause.specs.Literal.{lit_cmp}
use Rattle.lj_clause.specs.LiteralSet.{literals, from_literals}
use Rattle.lj_clause.proofs.LiteralSets.{literals_rise}
use Rattle.lj_book.proofs.history.matching.imported.Goals as goal

pub new-requires : goal.new-requires
new-requires c =
    let ls : List ℤ = c.named.result.0.now in
    let same : ls ≡ literals (from_literals ls) = search rules in
    subst (λ (xs : List ℤ). IsStrictlySortedBy lit_cmp xs) (sym same) (literals_rise (from_literals ls))
