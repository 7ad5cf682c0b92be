-- Lists as far as a loop has come.
use Rattle.std.proofs.Common.{◌≡◌, ap, refl, ◌∙◌, ℕ, ◌+◌, ◌<◌, ◌≤◌, take, get_or, Bool, cond, true, false, arith}
use Rattle.std.specs.Prelude.{List, [], ◌∷◌, ◌++◌, length, Option, Some, None, filter, filter_map, not}
use Rattle.std.proofs.lemmas.Bool.{false≢true}
use Rattle.std.proofs.lemmas.List.Filters.{length-filter_both}
use Rattle.std.specs.List.{cons_option}
use Rattle.std.proofs.lemmas.List.{take_more, append-nil}
use Rattle.std.proofs.lemmas.List.Elements.{filter_map-append}

one_more : {X Y : Type 0} (f : X → Option Y) (xs : List X) (i : ℕ) (d : X) → i < length xs → filter_map f (take (i + 1) xs) ≡ filter_map f (take i xs) ++ filter_map f (get_or xs i d ∷ [])
one_more f xs i d lt = ap (filter_map f) (take_more xs i d lt) ∙ filter_map-append f (take i xs) (get_or xs i d ∷ [])

pub picked : {X Y : Type 0} (f : X → Option Y) (xs : List X) (i : ℕ) (d : X) (y : Y) → i < length xs → f (get_or xs i d) ≡ Some y → filter_map f (take (i + 1) xs) ≡ filter_map f (take i xs) ++ y ∷ []
picked f xs i d y lt e = one_more f xs i d lt ∙ ap (λ zs. filter_map f (take i xs) ++ zs) (one f (get_or xs i d) y e)
  where
    one : {X Y : Type 0} (f : X → Option Y) (x : X) (y : Y) → f x ≡ Some y → filter_map f (x ∷ []) ≡ y ∷ []
    one f x y e = ap (λ o. cons_option o []) e

pub passed_by : {X Y : Type 0} (f : X → Option Y) (xs : List X) (i : ℕ) (d : X) → i < length xs → f (get_or xs i d) ≡ None → filter_map f (take (i + 1) xs) ≡ filter_map f (take i xs)
passed_by f xs i d lt e = one_more f xs i d lt ∙ ap (λ zs. filter_map f (take i xs) ++ zs) (one f (get_or xs i d) e) ∙ append-nil (filter_map f (take i xs))
  where
    one : {X Y : Type 0} (f : X → Option Y) (x : X) → f x ≡ None → filter_map f (x ∷ []) ≡ []
    one f x e = ap (λ o. cons_option o []) e

-- ---- the first that passes a test

filter-push : {X : Type 0} (test : X → Bool) (xs : List X) (x : X) → filter test (xs ++ x ∷ []) ≡ filter test xs ++ filter test (x ∷ [])
filter-push test [] x = refl
filter-push test (y ∷ xs) x =
    elim (test y) as (λ b. cond b (y ∷ filter test (xs ++ x ∷ [])) (filter test (xs ++ x ∷ [])) ≡ cond b (y ∷ filter test xs) (filter test xs) ++ filter test (x ∷ [])) [
      | true ↦ ap (λ ys. y ∷ ys) (filter-push test xs x)
      | false ↦ filter-push test xs x
    ]

pub none_more : {X : Type 0} (test : X → Bool) (xs : List X) (i : ℕ) (d : X) → i < length xs → filter test (take i xs) ≡ [] → test (get_or xs i d) ≡ false → filter test (take (i + 1) xs) ≡ []
none_more test xs i d lt none fails =
    ap (filter test) (take_more xs i d lt)
    ∙ filter-push test (take i xs) (get_or xs i d)
    ∙ ap (λ ys. ys ++ filter test (get_or xs i d ∷ [])) none
    ∙ ap (λ b. cond b (get_or xs i d ∷ []) []) fails

is_nothing : {X : Type 0} → List X → Bool
is_nothing [] = true
is_nothing (x ∷ xs) = false

pub not_empty : {X : Type 0} (x : X) (xs : List X) → x ∷ xs ≡ [] → ⊥
unfolding is_nothing
not_empty x xs e = false≢true (ap is_nothing e)

-- ---- how long what passes a test is

pub length-filter-le : {X : Type 0} (test : X → Bool) (xs : List X) → length (filter test xs) ≤ length xs
length-filter-le test xs = let both : length (filter test xs) + length (filter (λ x. not (test x)) xs) ≡ length xs = length-filter_both test (λ x. not (test x)) (λ x. refl) xs in omega (arith, both)
