use Rattle.std.proofs.Common.{◌≡◌, ap, sym, ◌∙◌, subst, ℕ, true, arith}
use Rattle.std.proofs.lemmas.Bool.Decides.{nat_tests}
use Rattle.std.specs.List.Sorted.{IsStrictlySortedBy}
use Rattle.std.specs.Ordering.{nat_cmp}
use Rattle.std.specs.Prelude.{◌==◌, nat_eq}
use Rattle.std.specs.Cmp.{nat_cmp_total, unsigned_tied}
use Rattle.std.proofs.lemmas.List.Filters.{dedup_is}
use Rattle.std.proofs.lemmas.List.Kept.{IsStrictlySortedBy-dedup}
use Rattle.std.proofs.lemmas.List.Sorted.{list_any-IsPermutation}
use Rattle.lj_clause.proofs.LiteralSets.{list_any-dedup}
use Rattle.lj_book.specs.Tables.{is_among}
use Rattle.lj_book.proofs.dying.rising.Goals as goal

same_number : (x k : ℕ) → nat_eq x k ≡ true → x ≡ k
same_number x k e = grind (arith, nat_tests)

pub returns-clause-rising : goal.returns-clause-rising
returns-clause-rising c =
    subst (IsStrictlySortedBy nat_cmp) (sym (dedup_is nat_eq _ _ c.dedup.ensures.filtered))
    (IsStrictlySortedBy-dedup nat_cmp_total {E = nat_eq} (λ x y. sym (unsigned_tied x y)) c.sort_unstable.new.self.items c.sort_unstable.ensures.sorted)

pub returns-clause-same : goal.returns-clause-same
returns-clause-same c = λ n.
    ap (λ ms. is_among ms n) (dedup_is nat_eq _ _ c.dedup.ensures.filtered)
    ∙ list_any-dedup nat_eq (λ m. m == n) (λ x k e. ap (λ m. m == n) (same_number x k e)) c.sort_unstable.new.self.items
    ∙ sym (list_any-IsPermutation (λ m. m == n) c.args.numbers.items c.sort_unstable.new.self.items c.sort_unstable.ensures.permutation)
