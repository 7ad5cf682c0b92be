-- The order in which variables are given out.
use Rattle.std.proofs.Common.{◌≡◌, ap, refl, sym, ◌∙◌, subst, inl, inr, ⊎_elim, ℕ, ◌+◌, ◌<◌, ◌≤◌, ◌==◌, Bool, cond, true, false, arith}
use Rattle.std.specs.Prelude.{◌⊎◌, T, ℤ, pos, negsuc, List, [], ◌∷◌, map, length, Some}
use Rattle.std.specs.List.{AllByRecursion}
use Rattle.std.proofs.lemmas.Bool.{false≢true, cases_lt, cases_order, or_left, or_right, or_cases, eq-eqb, eqb-true}
use Rattle.std.proofs.lemmas.Bool.Decides.{nat_tests}
use Rattle.std.specs.Ordering.{nat_cmp, is_lt}
use Rattle.std.specs.FinMap as fin
use Rattle.std.specs.FinMap.Entries.{is_sorted, below_all}
use Rattle.lj_clause.specs.Literal.{variable_of, lit_cmp, index_of}
use Rattle.lj_clause.specs.LiteralSet.{LiteralSet, literals}
use Rattle.lj_clause.specs.Renaming.{has_name}
use Rattle.lj_clause.proofs.Tests.{left_of, right_of}
use Rattle.lj_book.specs.Tables.{is_among}
use Rattle.lj_book.specs.Variables.{Variables, IsVariables, IsGiven, renaming_of, with_variable, with_name, with_names, given}
use Rattle.lj_book.proofs.VariableLaws.{some_injective, gives, with_name-here, with_name-IsVariables, with_names-IsVariables, with_names-keeps}

-- no number is less than one before it
abbrev NoneFalls : List ℕ → Type 0
NoneFalls [] = Unit {0}
NoneFalls (x ∷ xs) = AllByRecursion (λ z. x ≤ z) xs × NoneFalls xs

-- Those given out are among the variables, and rise with them.
record InOrder (v w : Variables) (seat : ℕ) (xs : List ℕ) : Type 0 where
  among : (x y : ℕ) → IsGiven w seat x y → v.next ≤ y → is_among xs x ≡ true
  rising : (x z y u : ℕ) → IsGiven w seat x y → IsGiven w seat z u → v.next ≤ y → y < u → x < z

least : (x z : ℕ) (xs : List ℕ) → AllByRecursion (λ z. x ≤ z) xs → is_among xs z ≡ true → x ≤ z
least x z [] all h = absurd (false≢true h)
least x z (y ∷ xs) all h = ⊎_elim (λ is. subst (λ k. x ≤ k) (eqb-true y z is) all.0) (λ later. least x z xs all.1 later) (or_cases (y == z) (is_among xs z) h)

-- one more in front, where it has a name
named_first : (v w : Variables) (seat x : ℕ) (xs : List ℕ) → InOrder v w seat xs → InOrder v w seat (x ∷ xs)
named_first v w seat x xs rest = record {
  among = λ z y g l. or_right (x == z) (is_among xs z) (rest.among z y g l);
  rising = rest.rising;
}

-- and where it gets one
given_first : (top : ℕ) (v w : Variables) (seat x : ℕ) (xs : List ℕ) → IsVariables top w → IsGiven w seat x v.next → AllByRecursion (λ z. x ≤ z) xs → InOrder (with_variable v seat x) w seat xs → InOrder v w seat (x ∷ xs)
given_first top v w seat x xs is here all rest = record {
  among = λ z y g l. ⊎_elim
      (λ same. or_left (x == z) (is_among xs z) (eq-eqb x z (sym (first z y g same))))
      (λ more. or_right (x == z) (is_among xs z) (rest.among z y g more))
      (split y l);
  rising = λ a b y u g h l less. ⊎_elim
      (λ same. after a b y u g h same less)
      (λ more. rest.rising a b y u g h more less)
      (split y l);
}
  where
    split : (y : ℕ) → v.next ≤ y → (y ≡ v.next) ⊎ (v.next + 1 ≤ y)
    split y l = by (cases_order y v.next)
      where
        by : (y ≡ v.next) ⊎ ((y < v.next) ⊎ (v.next < y)) → (y ≡ v.next) ⊎ (v.next + 1 ≤ y)
        by (inl e) = inl e
        by (inr (inl f)) = absurd (omega arith)
        by (inr (inr f)) = inr (omega arith)

    first : (z y : ℕ) → IsGiven w seat z y → y ≡ v.next → z ≡ x
    first z y g same = (is.one_to_one seat).apart z x v.next (g ∙ ap Some same) here

    after : (a b y u : ℕ) → IsGiven w seat a y → IsGiven w seat b u → y ≡ v.next → y < u → a < b
    after a b y u g h same less =
        let low : x ≤ b = least x b xs all (rest.among b u h (omega arith)) in
        ⊎_elim (λ l. subst (λ k. k < b) (sym (first a y g same)) l)
        (λ l. absurd (differ (omega arith)))
        (cases_lt x b)
      where
        differ : b ≡ x → ⊥
        differ e =
            let equal : u ≡ v.next = some_injective u v.next (sym h ∙ ap (fin.get (renaming_of w seat)) e ∙ here) in
            omega arith

with_names-order : (top : ℕ) (v : Variables) (seat : ℕ) (xs : List ℕ) → IsVariables top v → seat < length v.of_seats → NoneFalls xs → InOrder v (with_names top v seat xs) seat xs
with_names-order top v seat [] is here falls = record {
  among = λ x y g l. absurd (past x y g l);
  rising = λ x z y u g h l less. absurd (past x y g l);
}
  where
    past : (x y : ℕ) → IsGiven v seat x y → v.next ≤ y → ⊥
    past x y g l = let b = is.below seat x y g in omega arith
with_names-order top v seat (x ∷ xs) is here falls =
    by (has_name top (renaming_of v seat) x) refl
    (with_names-order top (with_name top v seat x) seat xs (with_name-IsVariables top v seat x is here) (with_name-here top v seat x here) falls.1)
    (with_names-IsVariables top (with_name top v seat x) seat xs (with_name-IsVariables top v seat x is here) (with_name-here top v seat x here))
    (λ y g. with_names-keeps top (with_name top v seat x) seat xs (with_name-here top v seat x here) seat x y g)
  where
    by : (b : Bool) → has_name top (renaming_of v seat) x ≡ b
        → InOrder (with_name top v seat x) (with_names top (with_name top v seat x) seat xs) seat xs
        → IsVariables top (with_names top (with_name top v seat x) seat xs)
        → ((y : ℕ) → IsGiven (with_name top v seat x) seat x y → IsGiven (with_names top (with_name top v seat x) seat xs) seat x y)
        → InOrder v (with_names top (with_name top v seat x) seat xs) seat (x ∷ xs)
    by true e rest rules keep = named_first v (with_names top (with_name top v seat x) seat xs) seat x xs
        (subst (λ (u : Variables). InOrder u (with_names top (with_name top v seat x) seat xs) seat xs) (ap (λ b. cond b v (with_variable v seat x)) e) rest)
    by false e rest rules keep = given_first top v (with_names top (with_name top v seat x) seat xs) seat x xs rules
        (keep v.next (subst (λ (u : Variables). IsGiven u seat x v.next) (sym (ap (λ b. cond b v (with_variable v seat x)) e)) (gives v seat x here)))
        falls.0
        (subst (λ (u : Variables). InOrder u (with_names top (with_name top v seat x) seat xs) seat xs) (ap (λ b. cond b v (with_variable v seat x)) e) rest)

-- ---- the literals of a clause

abbrev Listed : Type 0
Listed = ℤ × Unit {0}

abbrev variables_in : List Listed → List ℕ
variables_in es = map variable_of (map (λ (e : Listed). e.0) es)

place_less : (m n : ℕ) → T (is_lt (nat_cmp m n)) → m < n
place_less m n h = grind (arith, nat_tests)

place-le : (a b : ℤ) → index_of a < index_of b → variable_of a ≤ variable_of b
place-le (pos m) (pos n) h = omega arith
place-le (pos m) (negsuc n) h = omega arith
place-le (negsuc m) (pos n) h = omega arith
place-le (negsuc m) (negsuc n) h = omega arith

all_after : (l : ℤ) (es : List Listed) → T (below_all lit_cmp l es) → AllByRecursion (λ z. variable_of l ≤ z) (variables_in es)
all_after l [] h = tt
all_after l (e ∷ es) h = (place-le l e.0 (place_less (index_of l) (index_of e.0) (left_of _ _ h)), all_after l es (right_of _ _ h))

none_falls : (es : List Listed) → T (is_sorted lit_cmp es) → NoneFalls (variables_in es)
none_falls [] h = tt
none_falls (e ∷ es) h = (all_after e.0 es (left_of _ _ h), none_falls es (right_of _ _ h))

-- what a clause gives out rises with the seat's own variables
pub given-rising : (top : ℕ) (v : Variables) (seat : ℕ) (c : LiteralSet) → IsVariables top v → seat < length v.of_seats → (x z y u : ℕ) → IsGiven (given top v seat c) seat x y → IsGiven (given top v seat c) seat z u → v.next ≤ y → y < u → x < z
given-rising top v seat c is here = (with_names-order top v seat (map variable_of (literals c)) is here (none_falls (fin.entries c) (fin.entries_sorted c))).rising
