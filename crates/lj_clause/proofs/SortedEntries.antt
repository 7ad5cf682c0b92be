-- Entries whose numbers rise, as those of a finite map do.
use Rattle.std.proofs.Common.{◌≡◌, ℕ, ap, refl, sym, subst, ◌∙◌}
use Rattle.std.specs.Prelude.{Bool, true, false, cond, T, List, [], ◌∷◌, filter, Some, None}
use Rattle.std.specs.Ordering.{nat_cmp, is_lt, is_eq}
use Rattle.std.specs.declared.cmp.Ordering.{Ordering}
use Rattle.std.specs.declared.cmp.Ordering.TheVariants.{Less, Equal, Greater}
use Rattle.std.specs.FinMap.Entries.{find, is_sorted, below_all}
use Rattle.lj_clause.proofs.Tests.{left_of, right_of, both_of}

pub less : (r : Ordering) → r ≡ Less → T (is_lt r)
less r e = subst (λ o. T (is_lt o)) (sym e) tt

pub is_less : (r : Ordering) → T (is_lt r) → r ≡ Less
is_less Less h = refl
is_less Equal h = absurd h
is_less Greater h = absurd h

pub less_not_equal : (r : Ordering) → T (is_lt r) → is_eq r ≡ false
less_not_equal Less h = refl
less_not_equal Equal h = absurd h
less_not_equal Greater h = absurd h

pub none_below : {X : Type 0} (n : ℕ) (es : List (ℕ × X)) → T (below_all nat_cmp n es) → find nat_cmp n es ≡ None
none_below n [] h = refl
none_below n (e ∷ es) h = ap (λ b. cond b (Some e.1) (find nat_cmp n es)) (less_not_equal (nat_cmp n e.0) (left_of _ _ h)) ∙ none_below n es (right_of _ _ h)

below_filter : {X : Type 0} (test : ℕ × X → Bool) (n : ℕ) (es : List (ℕ × X)) → T (below_all nat_cmp n es) → T (below_all nat_cmp n (filter test es))
below_filter test n [] h = tt
below_filter test n (e ∷ es) h =
    elim (test e) as (λ b. T (below_all nat_cmp n (cond b (e ∷ filter test es) (filter test es)))) [
      | true ↦ both_of _ _ (left_of _ _ h) (below_filter test n es (right_of _ _ h))
      | false ↦ below_filter test n es (right_of _ _ h)
    ]

pub is_sorted-filter : {X : Type 0} (test : ℕ × X → Bool) (es : List (ℕ × X)) → T (is_sorted nat_cmp es) → T (is_sorted nat_cmp (filter test es))
is_sorted-filter test [] h = tt
is_sorted-filter test (e ∷ es) h =
    elim (test e) as (λ b. T (is_sorted nat_cmp (cond b (e ∷ filter test es) (filter test es)))) [
      | true ↦ both_of _ _ (below_filter test e.0 es (left_of _ _ h)) (is_sorted-filter test es (right_of _ _ h))
      | false ↦ is_sorted-filter test es (right_of _ _ h)
    ]
