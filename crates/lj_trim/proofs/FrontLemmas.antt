-- Steps, from the first on, and lists from the last on.
use Rattle.std.proofs.Common.{◌≡◌, ℕ, zero, suc, ◌+◌, ◌-◌, ◌<◌, ◌≤◌, true, false, cond, List, [], ◌∷◌, ◌++◌, map, length, take, drop, get_or, refl, sym, ap, ◌∙◌, arith, append-nil, add-one}
use Rattle.std.specs.Prelude.{Bool, ◌||◌, ◌==◌}
use Rattle.std.specs.List.{list_any}
use Rattle.std.specs.FinMap as fin
use Rattle.std.proofs.Math.Seq.{drop-cons, take-suc}
use Rattle.std.proofs.lemmas.Grind.{flat_map-append}
use Rattle.std.proofs.lemmas.List.{length-map}
use Rattle.lj_clause.specs.LiteralSet.{LiteralSet, literals}
use Rattle.lj_text.specs.declared.step.Step.{Step}
use Rattle.lj_text.specs.declared.step.Step.TheVariants.{Add, Delete}
use Rattle.lj_text.specs.Steps.{adds_empty}
use Rattle.lj_text.specs.Needed.{up_to_empty, additions, added_number, empty_numbers}

pub empty-literals : (c : LiteralSet) → (length (literals c) == 0) ≡ (fin.len c == 0)
empty-literals c = ap (λ n. n == 0) (length-map (fin.entries c) (λ e. e.0) ∙ sym (fin.len-entries c))

left_false : (a b : Bool) → (a || b) ≡ false → a ≡ false
left_false true b e = cc
left_false false b e = refl

right_false : (a b : Bool) → (a || b) ≡ false → b ≡ false
right_false true b e = cc
right_false false b e = e

up_to-suc : (xs : List Step) (i : ℕ) (x : Step) → list_any adds_empty (take i xs) ≡ false → i < length xs → x ≡ get_or xs i x → adds_empty x ≡ true → take (suc i) xs ≡ up_to_empty xs
up_to-suc [] i x none lt e here = absurd (omega arith)
up_to-suc (y ∷ ys) zero x none lt e here = sym (ap (λ b. cond b (y ∷ []) (y ∷ up_to_empty ys)) (ap adds_empty (sym e) ∙ here))
up_to-suc (y ∷ ys) (suc i) x none lt e here =
    ap (λ t. y ∷ t) (up_to-suc ys i x (right_false (adds_empty y) (list_any adds_empty (take i ys)) none) (omega arith) e here)
    ∙ sym (ap (λ b. cond b (y ∷ []) (y ∷ up_to_empty ys)) (left_false (adds_empty y) (list_any adds_empty (take i ys)) none))

-- the first addition of the empty clause
pub up_to-found : (xs : List Step) (i : ℕ) (x : Step) → list_any adds_empty (take i xs) ≡ false → i < length xs → x ≡ get_or xs i x → adds_empty x ≡ true → take (i + 1) xs ≡ up_to_empty xs
up_to-found xs i x none lt e here = ap (λ k. take k xs) (add-one i) ∙ up_to-suc xs i x none lt e here

-- where no step adds the empty clause, the steps up to it are all
pub up_to-none : (xs : List Step) → list_any adds_empty xs ≡ false → up_to_empty xs ≡ xs
up_to-none [] e = refl
up_to-none (x ∷ xs) e =
    ap (λ b. cond b (x ∷ []) (x ∷ up_to_empty xs)) (left_false (adds_empty x) (list_any adds_empty xs) e)
    ∙ ap (λ t. x ∷ t) (up_to-none xs (right_false (adds_empty x) (list_any adds_empty xs) e))

pub additions-append : (xs ys : List Step) → additions (xs ++ ys) ≡ additions xs ++ additions ys
additions-append [] ys = refl
additions-append (Add a ∷ xs) ys = ap (λ t. a ∷ t) (additions-append xs ys)
additions-append (Delete ns ∷ xs) ys = additions-append xs ys

-- the steps up to an item of a list
pub take-item : {X : Type 0} (xs : List X) (i : ℕ) (x : X) → i < length xs → x ≡ get_or xs i x → take (i + 1) xs ≡ take i xs ++ x ∷ []
take-item xs i x lt e = ap (λ k. take k xs) (add-one i) ∙ take-suc xs i x lt ∙ ap (λ y. take i xs ++ y ∷ []) (sym e)

pub additions-more : (xs : List Step) (i : ℕ) (x : Step) → i < length xs → x ≡ get_or xs i x → additions (take (i + 1) xs) ≡ additions (take i xs) ++ additions (x ∷ [])
additions-more xs i x lt e = ap additions (take-item xs i x lt e) ∙ additions-append (take i xs) (x ∷ [])

pub empty_numbers-more : (xs : List Step) (i : ℕ) (x : Step) → i < length xs → x ≡ get_or xs i x → empty_numbers (take (i + 1) xs) ≡ empty_numbers (take i xs) ++ cond (adds_empty x) (added_number x) []
empty_numbers-more xs i x lt e =
    ap empty_numbers (take-item xs i x lt e)
    ∙ flat_map-append (λ s. cond (adds_empty s) (added_number s) []) (take i xs) (x ∷ [])
    ∙ ap (λ t. empty_numbers (take i xs) ++ t) (append-nil (cond (adds_empty x) (added_number x) []))

-- one item more at the front
pub drop-item : {X : Type 0} (xs : List X) (n : ℕ) (x : X) → 0 < n → n ≤ length xs → x ≡ get_or xs (n - 1) x → drop (n - 1) xs ≡ x ∷ drop n xs
drop-item xs n x some le e =
    let lt : n - 1 < length xs = omega arith in
    let back : suc (n - 1) ≡ n = omega arith in
    drop-cons xs (n - 1) x lt ∙ ap (λ y. y ∷ drop (suc (n - 1)) xs) (sym e) ∙ ap (λ k. x ∷ drop k xs) back

pub drop-map : {X Y : Type 0} (f : X → Y) (n : ℕ) (xs : List X) → drop n (map f xs) ≡ map f (drop n xs)
drop-map f zero xs = refl
drop-map f (suc n) [] = refl
drop-map f (suc n) (x ∷ xs) = drop-map f n xs
