use Rattle.std.proofs.Common.{ap, sym, ◌∙◌, subst, refl}
use Rattle.std.specs.List.{list_any}
use Rattle.std.specs.List.Sorted.{IsStrictlySortedBy}
use Rattle.std.specs.Ordering.{eq_by_cmp}
use Rattle.std.proofs.lemmas.List.Filters.{dedup_is}
use Rattle.std.proofs.lemmas.List.Kept.{IsStrictlySortedBy-dedup}
use Rattle.std.proofs.lemmas.List.Sorted.{list_any-IsPermutation}
use Rattle.lj_clause.specs.Literal.{lit_cmp}
use Rattle.lj_clause.specs.inner.Literal.{lit_cmp_total}
use Rattle.lj_clause.proofs.Literals.{same_literal}
use Rattle.lj_clause.proofs.LiteralSets.{from_literals-same, list_any-dedup}
use Rattle.lj_clause.proofs.clause.put_in_order.Goals as goal

pub returns-clause-rising : goal.returns-clause-rising
returns-clause-rising c =
    subst (IsStrictlySortedBy lit_cmp) (sym (dedup_is (eq_by_cmp lit_cmp) _ _ c.dedup.ensures.filtered))
    (IsStrictlySortedBy-dedup lit_cmp_total {E = eq_by_cmp lit_cmp} (λ x y. refl) c.sort_unstable.new.self.items c.sort_unstable.ensures.sorted)

pub returns-clause-same : goal.returns-clause-same
returns-clause-same c =
    from_literals-same _ _ (λ q.
    ap (list_any (eq_by_cmp lit_cmp q)) (dedup_is (eq_by_cmp lit_cmp) _ _ c.dedup.ensures.filtered)
    ∙ list_any-dedup (eq_by_cmp lit_cmp) (eq_by_cmp lit_cmp q) (λ x k e. ap (eq_by_cmp lit_cmp q) (same_literal x k e)) c.sort_unstable.new.self.items
    ∙ sym (list_any-IsPermutation (eq_by_cmp lit_cmp q) c.args.lits.now.items c.sort_unstable.new.self.items c.sort_unstable.ensures.permutation))
