-- A binary search in a list of literals in strict order.
use Rattle.std.proofs.Common.{◌≡◌, ℕ, suc, zero, ◌<◌, inl, inr, ap, sym, ◌∙◌, arith, add-one}
use Rattle.std.specs.Prelude.{ℤ, List, [], ◌∷◌, length, get_or, Result, Ok, Err, is_ok}
use Rattle.std.specs.List.{list_any}
use Rattle.std.specs.List.Sorted.{IsStrictlySortedBy, IsSorted, IsSearchInRange, IsBinarySearchResult}
use Rattle.std.specs.Ordering.{eq_by_cmp, is_lt, is_eq, ordering_reverse}
use Rattle.std.specs.declared.cmp.Ordering.TheVariants.{Less}
use Rattle.std.specs.Cmp.{eq_by_cmp_equiv}
use Rattle.std.proofs.lemmas.Bool.{cases_lt}
use Rattle.std.proofs.lemmas.List.{get_or_default}
use Rattle.std.proofs.lemmas.List.Folds.{list_any-from_Any, list_any_none}
use Rattle.std.proofs.lemmas.List.Sorted.{searchable_from_sorted}
use Rattle.lj_clause.specs.Literal.{lit_cmp}
use Rattle.lj_clause.specs.inner.Literal.{lit_cmp_total}

next_above : (ls : List ℤ) → IsStrictlySortedBy lit_cmp ls → (k : ℕ) (d : ℤ) → suc k < length ls → lit_cmp (get_or ls k d) (get_or ls (suc k) d) ≡ Less
unfolding IsStrictlySortedBy
next_above [] h k d lt = absurd (omega arith)
next_above (x ∷ []) h k d lt = absurd (omega arith)
next_above (x ∷ y ∷ ls) h zero d lt = h.0.0
next_above (x ∷ y ∷ ls) h (suc k) d lt = next_above (y ∷ ls) h.1 k d (omega arith)

sorted_from_rising : (ls : List ℤ) → IsStrictlySortedBy lit_cmp ls → IsSorted lit_cmp ls
sorted_from_rising ls h k d from to =
    let e = next_above ls h k d (omega arith) in
    rw add-one (ap is_lt (lit_cmp_total.antisymm (get_or ls (suc k) d) (get_or ls k d) ∙ ap ordering_reverse e))

-- what `binary_search` finds in a list in strict order
pub found_is : (ls : List ℤ) (x : ℤ) (r : Result ℕ ℕ) → IsStrictlySortedBy lit_cmp ls → IsSearchInRange r (length ls) → IsBinarySearchResult (λ y. lit_cmp y x) ls r → is_ok r ≡ list_any (eq_by_cmp lit_cmp x) ls
found_is ls x (Ok i) h range is =
    sym (list_any-from_Any (eq_by_cmp lit_cmp x) ls (i, get_or ls i x, range, get_or_default ls i (get_or ls i x) x range, (eq_by_cmp_equiv lit_cmp_total).symm x (get_or ls i x) ∙ ap is_eq (is x)))
found_is ls x (Err i) h range is =
    let parts = is (searchable_from_sorted lit_cmp_total (λ (l : ℤ). l) ls x (sorted_from_rising ls h)) in
    sym (list_any_none (eq_by_cmp lit_cmp x) ls (λ k d lt.
    (eq_by_cmp_equiv lit_cmp_total).symm x (get_or ls k d) ∙ elim (cases_lt k i) [ inl below ↦ ap is_eq (parts.0 k d (omega arith) below) | inr above ↦ ap is_eq (parts.1 k d above lt) ]))
