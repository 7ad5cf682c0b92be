-- The seats' variables: what is given to one of them, and what stays.
use Rattle.std.proofs.Common.{◌≡◌, ap, refl, sym, ◌∙◌, subst, ⊎_elim, ℕ, zero, suc, ◌+◌, ◌<◌, ◌≤◌, ◌==◌, cond, true, false, arith}
use Rattle.std.specs.Prelude.{◌≢◌, List, [], ◌∷◌, length, replicate, Option, Some, None, is_some, slice_index_or, nat_le}
use Rattle.std.specs.List.{list_all}
use Rattle.std.proofs.lemmas.List.{get_or-set_same, get_or-set_other, length-set}
use Rattle.std.proofs.lemmas.Bool.{cases_eq, cases_lt, false≢true, eqb-true, eq-eqb, ne_eqb, or_parts, or_cases, or_left, or_right, and_parts, leb-false}
use Rattle.std.specs.Ordering.{nat_cmp}
use Rattle.std.specs.Cmp.{nat_cmp_total, unsigned_tied}
use Rattle.std.specs.FinMap as fin
use Rattle.lj_clause.specs.Renaming.{Renaming, has_name, IsPartOf}
use Rattle.lj_book.specs.Tables.{is_among}
use Rattle.lj_book.specs.Variables.{Variables, IsVariables, IsGiven, renaming_of, no_variables, with_variable, with_name, with_names}

-- ---- one variable more in a renaming

pub get_put : (m : Renaming) (k n q : ℕ) → fin.get (fin.insert m k n) q ≡ cond (q == k) (Some n) (fin.get m q)
get_put m k n q = fin.get-insert nat_cmp_total m k n q ∙ ap (λ b. cond b (Some n) (fin.get m q)) (unsigned_tied q k)

pub get_put_here : (m : Renaming) (k n : ℕ) → fin.get (fin.insert m k n) k ≡ Some n
get_put_here m k n = get_put m k n k ∙ ap (λ b. cond b (Some n) (fin.get m k)) (eq-eqb k k refl)

pub get_put_other : (m : Renaming) (k n q : ℕ) → q ≢ k → fin.get (fin.insert m k n) q ≡ fin.get m q
get_put_other m k n q h = get_put m k n q ∙ ap (λ b. cond b (Some n) (fin.get m q)) (ne_eqb q k h)

pub none_is_some : {X P : Type 0} (o : Option X) (x : X) → o ≡ None → o ≡ Some x → P
none_is_some o x e f = absurd (false≢true (ap is_some (sym e ∙ f)))

pub some_injective : {X : Type 0} (x y : X) → Some x ≡ Some y → x ≡ y
some_injective x y e = cc

put-IsPartOf : (m : Renaming) (k n : ℕ) → fin.get m k ≡ None → IsPartOf m (fin.insert m k n)
put-IsPartOf m k n free = λ x y e. get_put_other m k n x (λ is. none_is_some (fin.get m x) y (ap (fin.get m) is ∙ free) e) ∙ e

pub part_of_itself : (m : Renaming) → IsPartOf m m
part_of_itself m = λ x y e. e

-- ---- one variable more of a seat

module _ (v : Variables) (seat x : ℕ) where
  pub renaming-with : seat < length v.of_seats → renaming_of (with_variable v seat x) seat ≡ fin.insert (renaming_of v seat) x v.next
  renaming-with h = get_or-set_same v.of_seats seat (fin.insert (renaming_of v seat) x v.next) fin.empty h

  pub renaming-other : (s : ℕ) → s ≢ seat → renaming_of (with_variable v seat x) s ≡ renaming_of v s
  renaming-other s h = get_or-set_other v.of_seats seat s (fin.insert (renaming_of v seat) x v.next) fin.empty h

  pub length-with : length (with_variable v seat x).of_seats ≡ length v.of_seats
  length-with = length-set v.of_seats seat (fin.insert (renaming_of v seat) x v.next)

  -- what is given then: the new one, and what was given before
  pub data Now (s z y : ℕ) : Type 0 where
    newly : s ≡ seat → z ≡ x → y ≡ v.next → Now s z y
    before : IsGiven v s z y → Now s z y

  pub now : seat < length v.of_seats → (s z y : ℕ) → IsGiven (with_variable v seat x) s z y → Now s z y
  now h s z y e = ⊎_elim
      (λ is. by_seat is (sym (ap (λ (m : Renaming). fin.get m z) (ap (renaming_of (with_variable v seat x)) is ∙ renaming-with h)) ∙ e))
      (λ other. before (sym (ap (λ (m : Renaming). fin.get m z) (renaming-other s other)) ∙ e))
      (cases_eq s seat)
    where
      by_seat : s ≡ seat → fin.get (fin.insert (renaming_of v seat) x v.next) z ≡ Some y → Now s z y
      by_seat is f = ⊎_elim
          (λ same. newly is same (some_injective y v.next (sym f ∙ ap (fin.get (fin.insert (renaming_of v seat) x v.next)) same ∙ get_put_here (renaming_of v seat) x v.next)))
          (λ other. before (ap (λ t. fin.get (renaming_of v t) z) is ∙ sym (get_put_other (renaming_of v seat) x v.next z other) ∙ f))
          (cases_eq z x)

  pub keeps : seat < length v.of_seats → fin.get (renaming_of v seat) x ≡ None → (s z y : ℕ) → IsGiven v s z y → IsGiven (with_variable v seat x) s z y
  keeps h free s z y e = ⊎_elim
      (λ is. ap (λ (m : Renaming). fin.get m z) (ap (renaming_of (with_variable v seat x)) is ∙ renaming-with h)
      ∙ put-IsPartOf (renaming_of v seat) x v.next free z y (sym (ap (λ t. fin.get (renaming_of v t) z) is) ∙ e))
      (λ other. ap (λ (m : Renaming). fin.get m z) (renaming-other s other) ∙ e)
      (cases_eq s seat)

  pub gives : seat < length v.of_seats → IsGiven (with_variable v seat x) seat x v.next
  gives h = ap (λ (m : Renaming). fin.get m x) (renaming-with h) ∙ get_put_here (renaming_of v seat) x v.next

-- ---- what is given keeps to the rules

step-IsVariables : (top : ℕ) (v : Variables) (seat x : ℕ) → IsVariables top v → seat < length v.of_seats → top < x → fin.get (renaming_of v seat) x ≡ None → IsVariables top (with_variable v seat x)
step-IsVariables top v seat x is here above free = record {
  one_to_one = λ s. record {
    above = λ a b e. both_above s a b (now v seat x here s a b e);
    apart = λ a c b e f. alone s a c b (now v seat x here s a b e) (now v seat x here s c b f);
  };
  apart = λ s t a c b e f. one_seat s t a c b (now v seat x here s a b e) (now v seat x here t c b f);
  below = λ s a b e. low s a b (now v seat x here s a b e);
  all = λ y g h. ⊎_elim (λ l. kept y (is.all y g l)) (λ l. (seat, x, gives v seat x here ∙ ap Some (last y h l))) (cases_lt y v.next);
  past = let p = is.past in omega arith;
}
  where
    fresh : (y : ℕ) → y ≡ v.next → y < v.next → ⊥
    fresh y e l = omega arith

    last : (y : ℕ) → y < v.next + 1 → v.next ≤ y → v.next ≡ y
    last y h l = omega arith

    both_above : (s a b : ℕ) → Now v seat x s a b → (top < a) × (top < b)
    both_above s a b (newly p q r) = (subst (λ n. top < n) (sym q) above, subst (λ n. top < n) (sym r) is.past)
    both_above s a b (before e) = (is.one_to_one s).above a b e

    alone : (s a c b : ℕ) → Now v seat x s a b → Now v seat x s c b → a ≡ c
    alone s a c b (newly p q r) (newly p' q' r') = q ∙ sym q'
    alone s a c b (newly p q r) (before e) = absurd (fresh b r (is.below s c b e))
    alone s a c b (before e) (newly p q r) = absurd (fresh b r (is.below s a b e))
    alone s a c b (before e) (before f) = (is.one_to_one s).apart a c b e f

    one_seat : (s t a c b : ℕ) → Now v seat x s a b → Now v seat x t c b → s ≡ t
    one_seat s t a c b (newly p q r) (newly p' q' r') = p ∙ sym p'
    one_seat s t a c b (newly p q r) (before e) = absurd (fresh b r (is.below t c b e))
    one_seat s t a c b (before e) (newly p q r) = absurd (fresh b r (is.below s a b e))
    one_seat s t a c b (before e) (before f) = is.apart s t a c b e f

    low : (s a b : ℕ) → Now v seat x s a b → b < v.next + 1
    low s a b (newly p q r) = omega arith
    low s a b (before e) = let l = is.below s a b e in omega arith

    kept : (y : ℕ) → (s : ℕ) × (z : ℕ) × IsGiven v s z y → (s : ℕ) × (z : ℕ) × IsGiven (with_variable v seat x) s z y
    kept y g = (g.0, g.1, keeps v seat x here free g.0 g.1 y g.2)

pub nothing-replicate : (n i x : ℕ) → fin.get (slice_index_or (replicate n (fin.empty {X = ℕ} {R = nat_cmp})) i fin.empty) x ≡ None
nothing-replicate n i x = ap (λ (m : Renaming). fin.get m x) (all_empty n i) ∙ fin.get-empty nat_cmp x
  where
    all_empty : (n i : ℕ) → slice_index_or (replicate n (fin.empty {X = ℕ} {R = nat_cmp})) i fin.empty ≡ fin.empty
    all_empty zero i = refl
    all_empty (suc n) zero = refl
    all_empty (suc n) (suc i) = all_empty n i

pub none-IsVariables : (top seats : ℕ) → IsVariables top (no_variables top seats)
none-IsVariables top seats = record {
  one_to_one = λ s. record {
    above = λ a b e. none_is_some _ b (nothing-replicate seats s a) e;
    apart = λ a c b e f. none_is_some _ b (nothing-replicate seats s a) e;
  };
  apart = λ s t a c b e f. none_is_some _ b (nothing-replicate seats s a) e;
  below = λ s a b e. none_is_some _ b (nothing-replicate seats s a) e;
  all = λ y g h. absurd (between y g h);
  past = omega arith;
}
  where
    between : (y : ℕ) → top < y → y < top + 1 → ⊥
    between y g h = omega arith

-- ---- several variables

-- a variable that has no name is above top, and the renaming hasn't it
pub nameless : (top : ℕ) (m : Renaming) (x : ℕ) → has_name top m x ≡ false → (top < x) × (fin.get m x ≡ None)
nameless top m x h =
    let parts = or_parts (nat_le x top) (fin.contains_key m x) h in
    (leb-false x top parts.0, nothing (fin.get m x) parts.1)
  where
    nothing : (o : Option ℕ) → is_some o ≡ false → o ≡ None
    nothing None e = refl
    nothing (Some y) e = absurd (false≢true (sym e))

-- what holds before and after one variable more holds after a name is given
pub either_name : (top : ℕ) (v : Variables) (seat x : ℕ) (P : Variables → Type 0) → P v → (has_name top (renaming_of v seat) x ≡ false → P (with_variable v seat x)) → P (with_name top v seat x)
either_name top v seat x P same more = elim (has_name top (renaming_of v seat) x) as (λ b. has_name top (renaming_of v seat) x ≡ b → P (cond b v (with_variable v seat x))) [
  | true ↦ λ e. same
  | false ↦ λ e. more e
] refl

pub with_name-length : (top : ℕ) (v : Variables) (seat x : ℕ) → length (with_name top v seat x).of_seats ≡ length v.of_seats
with_name-length top v seat x = either_name top v seat x (λ w. length w.of_seats ≡ length v.of_seats) refl (λ e. length-with v seat x)

pub with_name-here : (top : ℕ) (v : Variables) (seat x : ℕ) → seat < length v.of_seats → seat < length (with_name top v seat x).of_seats
with_name-here top v seat x here = subst (λ n. seat < n) (sym (with_name-length top v seat x)) here

pub with_name-IsVariables : (top : ℕ) (v : Variables) (seat x : ℕ) → IsVariables top v → seat < length v.of_seats → IsVariables top (with_name top v seat x)
with_name-IsVariables top v seat x is here = either_name top v seat x (IsVariables top) is (λ e. let new = nameless top (renaming_of v seat) x e in step-IsVariables top v seat x is here new.0 new.1)

with_name-keeps : (top : ℕ) (v : Variables) (seat x : ℕ) → seat < length v.of_seats → (s z y : ℕ) → IsGiven v s z y → IsGiven (with_name top v seat x) s z y
with_name-keeps top v seat x here s z y g = either_name top v seat x (λ w. IsGiven w s z y) g (λ e. keeps v seat x here (nameless top (renaming_of v seat) x e).1 s z y g)

with_name-gives : (top : ℕ) (v : Variables) (seat x : ℕ) → seat < length v.of_seats → has_name top (renaming_of (with_name top v seat x) seat) x ≡ true
with_name-gives top v seat x here = elim (has_name top (renaming_of v seat) x) as (λ b. has_name top (renaming_of v seat) x ≡ b → has_name top (renaming_of (cond b v (with_variable v seat x)) seat) x ≡ true) [
  | true ↦ λ e. e
  | false ↦ λ e. or_right (nat_le x top) _ (ap is_some (gives v seat x here))
] refl

with_name-others : (top : ℕ) (v : Variables) (seat x s : ℕ) → s ≢ seat → renaming_of (with_name top v seat x) s ≡ renaming_of v s
with_name-others top v seat x s h = either_name top v seat x (λ w. renaming_of w s ≡ renaming_of v s) refl (λ e. renaming-other v seat x s h)

pub with_names-IsVariables : (top : ℕ) (v : Variables) (seat : ℕ) (xs : List ℕ) → IsVariables top v → seat < length v.of_seats → IsVariables top (with_names top v seat xs)
with_names-IsVariables top v seat [] is here = is
with_names-IsVariables top v seat (x ∷ xs) is here = with_names-IsVariables top (with_name top v seat x) seat xs (with_name-IsVariables top v seat x is here) (with_name-here top v seat x here)

-- what was given stays so
pub with_names-keeps : (top : ℕ) (v : Variables) (seat : ℕ) (xs : List ℕ) → seat < length v.of_seats → (s z y : ℕ) → IsGiven v s z y → IsGiven (with_names top v seat xs) s z y
with_names-keeps top v seat [] here s z y e = e
with_names-keeps top v seat (x ∷ xs) here s z y e = with_names-keeps top (with_name top v seat x) seat xs (with_name-here top v seat x here) s z y (with_name-keeps top v seat x here s z y e)

-- the renamings of the others stay
pub with_names-others : (top : ℕ) (v : Variables) (seat : ℕ) (xs : List ℕ) (s : ℕ) → s ≢ seat → renaming_of (with_names top v seat xs) s ≡ renaming_of v s
with_names-others top v seat [] s h = refl
with_names-others top v seat (x ∷ xs) s h = with_names-others top (with_name top v seat x) seat xs s h ∙ with_name-others top v seat x s h

-- a name stays
pub part-has_name : (top : ℕ) (m n : Renaming) (x : ℕ) → IsPartOf m n → has_name top m x ≡ true → has_name top n x ≡ true
part-has_name top m n x part h = ⊎_elim (λ l. or_left (nat_le x top) _ l) (λ there. or_right (nat_le x top) _ (kept (fin.get m x) refl there)) (or_cases (nat_le x top) (fin.contains_key m x) h)
  where
    kept : (o : Option ℕ) → fin.get m x ≡ o → is_some o ≡ true → fin.contains_key n x ≡ true
    kept None e f = absurd (false≢true f)
    kept (Some y) e f = ap is_some (part x y e)

-- each of them has a name then
pub with_names-gives : (top : ℕ) (v : Variables) (seat : ℕ) (xs : List ℕ) → seat < length v.of_seats → (x : ℕ) → is_among xs x ≡ true → has_name top (renaming_of (with_names top v seat xs) seat) x ≡ true
with_names-gives top v seat [] here x e = absurd (false≢true e)
with_names-gives top v seat (z ∷ xs) here x e = ⊎_elim
    (λ is. part-has_name top (renaming_of (with_name top v seat z) seat) (renaming_of (with_names top (with_name top v seat z) seat xs) seat) x
    (λ a b g. with_names-keeps top (with_name top v seat z) seat xs (with_name-here top v seat z here) seat a b g)
    (ap (has_name top (renaming_of (with_name top v seat z) seat)) (sym (eqb-true z x is)) ∙ with_name-gives top v seat z here))
    (λ later. with_names-gives top (with_name top v seat z) seat xs (with_name-here top v seat z here) x later)
    (or_cases (z == x) (is_among xs x) e)

-- where each has a name already, none is given
pub with_names-named : (top : ℕ) (v : Variables) (seat : ℕ) (xs : List ℕ) → list_all (has_name top (renaming_of v seat)) xs ≡ true → with_names top v seat xs ≡ v
with_names-named top v seat [] h = refl
with_names-named top v seat (x ∷ xs) h =
    let parts = and_parts (has_name top (renaming_of v seat) x) (list_all (has_name top (renaming_of v seat)) xs) h in
    ap (λ w. with_names top w seat xs) (ap (λ b. cond b v (with_variable v seat x)) parts.0) ∙ with_names-named top v seat xs parts.1

-- the next joint variable never falls
pub next-with_names : (top : ℕ) (v : Variables) (seat : ℕ) (xs : List ℕ) → v.next ≤ (with_names top v seat xs).next
next-with_names top v seat [] = omega arith
next-with_names top v seat (x ∷ xs) =
    let rest = next-with_names top (with_name top v seat x) seat xs in
    let one = either_name top v seat x (λ w. v.next ≤ w.next) (omega arith) (λ e. more v.next) in
    omega arith
  where
    more : (n : ℕ) → n ≤ n + 1
    more n = omega arith

-- the number of seats stays
pub with_names-length : (top : ℕ) (v : Variables) (seat : ℕ) (xs : List ℕ) → length (with_names top v seat xs).of_seats ≡ length v.of_seats
with_names-length top v seat [] = refl
with_names-length top v seat (x ∷ xs) = with_names-length top (with_name top v seat x) seat xs ∙ with_name-length top v seat x
