-- Lists of up to three literals, in order.
use Rattle.std.proofs.Common.{◌≡◌, ap, refl, sym, ◌∙◌}
use Rattle.std.specs.Prelude.{ℤ, Bool, true, false, ◌||◌, [], ◌∷◌}
use Rattle.std.specs.List.Sorted.{IsStrictlySortedBy}
use Rattle.std.specs.Ordering.{eq_by_cmp}
use Rattle.std.specs.declared.cmp.Ordering.TheVariants.{Less}
use Rattle.lj_clause.specs.Literal.{lit_cmp}
use Rattle.lj_clause.specs.inner.Literal.{lit_cmp_total}
use Rattle.lj_clause.specs.LiteralSet.{LiteralSet, no_literals, holds, with_literal, from_literals}
use Rattle.lj_clause.proofs.LiteralSets.{same_set, holds-with_literal}

pub rising_none : IsStrictlySortedBy lit_cmp []
unfolding IsStrictlySortedBy
rising_none = tt

pub rising_one : (a : ℤ) → IsStrictlySortedBy lit_cmp (a ∷ [])
unfolding IsStrictlySortedBy
rising_one a = (tt, tt)

pub rising_two : (a b : ℤ) → lit_cmp a b ≡ Less → IsStrictlySortedBy lit_cmp (a ∷ b ∷ [])
unfolding IsStrictlySortedBy
rising_two a b e = ((e, tt), (tt, tt))

pub rising_three : (a b c : ℤ) → lit_cmp a b ≡ Less → lit_cmp b c ≡ Less → IsStrictlySortedBy lit_cmp (a ∷ b ∷ c ∷ [])
unfolding IsStrictlySortedBy
rising_three a b c e f = ((e, (lit_cmp_total.trans a b c e f, tt)), ((f, tt), (tt, tt)))

or_swap : (a b c : Bool) → (a || (b || c)) ≡ (b || (a || c))
or_swap true true c = refl
or_swap true false c = refl
or_swap false b c = refl

pub swap : (s : LiteralSet) (a b : ℤ) → with_literal (with_literal s a) b ≡ with_literal (with_literal s b) a
swap s a b =
    same_set _ _ (λ q.
    holds-with_literal (with_literal s a) b q ∙ ap (λ x. eq_by_cmp lit_cmp q b || x) (holds-with_literal s a q)
    ∙ or_swap (eq_by_cmp lit_cmp q b) (eq_by_cmp lit_cmp q a) (holds s q)
    ∙ sym (holds-with_literal (with_literal s b) a q ∙ ap (λ x. eq_by_cmp lit_cmp q a || x) (holds-with_literal s b q)))

-- one literal more makes the same set wherever it stands
pub and_last : (a b c : ℤ) → with_literal (from_literals (a ∷ b ∷ [])) c ≡ from_literals (a ∷ b ∷ c ∷ [])
and_last a b c = swap (with_literal no_literals b) a c ∙ ap (λ s. with_literal s a) (swap no_literals b c)
