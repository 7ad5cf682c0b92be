-- Maps that are looked through from their first entry.
use Rattle.std.proofs.Common.{◌≡◌, ap, sym, ◌∙◌, subst, ℕ, Bool, cond, true}
use Rattle.std.specs.Prelude.{T, List, [], ◌∷◌, map, filter, Some, None, slice_get}
use Rattle.std.specs.List.Sorted.{IsStrictlySortedBy}
use Rattle.std.specs.Ordering.{nat_cmp}
use Rattle.std.specs.Cmp.{nat_cmp_total}
use Rattle.std.specs.FinMap as fin
use Rattle.std.specs.FinMap.{nat_cmp-IsAntisymmetric}
use Rattle.std.specs.FinMap.Entries.{same_entries}
use Rattle.lj_book.proofs.DropLaws.{sorted-keys, Rises-sorted}

-- the entries of the map that a sorted list makes are that list
pub entries_are : {X : Type 0} (es : List (ℕ × X)) → IsStrictlySortedBy nat_cmp (map (λ e. e.0) es) → fin.entries (fin.from_entries {R = nat_cmp} es) ≡ es
entries_are es sorted =
    same_entries nat_cmp nat_cmp_total nat_cmp-IsAntisymmetric _ _ (fin.entries_sorted (fin.from_entries es)) (subst T (sorted-keys es) (Rises-sorted (map (λ e. e.0) es) sorted)) (λ q.
    sym (fin.get-entries (fin.from_entries es) q) ∙ fin.get-from_entries nat_cmp_total es q)

-- the keys of the entries whose value passes the test
abbrev pub numbers_in : {X : Type 0} → (X → Bool) → List (ℕ × X) → List ℕ
numbers_in test es = map (λ e. e.0) (filter (λ e. test e.1) es)

numbers-taken : {X : Type 0} (test : X → Bool) (n : ℕ) (x : X) (es : List (ℕ × X)) → test x ≡ true → numbers_in test ((n, x) ∷ es) ≡ n ∷ numbers_in test es
numbers-taken {X} test n x es h = ap (λ b. map (λ (e : ℕ × X). e.0) (cond b ((n, x) ∷ filter (λ e. test e.1) es) (filter (λ e. test e.1) es))) h

-- the first that is found
pub first_found : {X : Type 0} (test : X → Bool) (all : List ℕ) (left rest : List (ℕ × X)) (n : ℕ) (x : X) → numbers_in test left ≡ all → left ≡ (n, x) ∷ rest → test x ≡ true → Some n ≡ slice_get all 0
first_found test all left rest n x before is h =
    ap (λ ms. slice_get ms 0) (sym (numbers-taken test n x rest h) ∙ ap (numbers_in test) (sym is) ∙ before)

pub none_found : {X : Type 0} (test : X → Bool) (all : List ℕ) (left : List (ℕ × X)) → numbers_in test left ≡ all → left ≡ [] → None ≡ slice_get all 0
none_found test all left before is = ap (λ ms. slice_get ms 0) (sym (ap (numbers_in test) is) ∙ before)
