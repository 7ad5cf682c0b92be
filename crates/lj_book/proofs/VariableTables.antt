-- How the variables of the seats are kept.
use Rattle.std.proofs.Common.{◌≡◌, ap, refl, sym, ◌∙◌, subst, inl, inr, ⊎_elim, ℕ, zero, suc, ◌+◌, ◌-◌, ◌<◌, ◌≤◌, ◌==◌, cond, arith}
use Rattle.std.specs.Prelude.{◌≢◌, ◌⊎◌, List, [], ◌∷◌, ◌++◌, length, replicate, Option, Some, None, IfSome, slice_get, slice_index_or, slice_set}
use Rattle.std.proofs.lemmas.Bool.{cases_eq, cases_lt, eq-eqb, ne_eqb}
use Rattle.std.proofs.lemmas.List.{get_or-set_same, get_or-set_other, get_or_past, length-append}
use Rattle.std.specs.Ordering.{nat_cmp}
use Rattle.std.specs.Cmp.{nat_cmp_total, unsigned_tied}
use Rattle.std.specs.FinMap as fin
use Rattle.lj_clause.specs.declared.lit.TheConstants.{MAX_VARIABLE}
use Rattle.lj_clause.specs.Renaming.{Renaming, inverse}
use Rattle.lj_clause.proofs.Renaming.{inverse_gives, gives_inverse}
use Rattle.lj_book.specs.declared.variable_table.Owner.{Owner}
use Rattle.lj_book.specs.Variables.{Variables, IsVariables, with_variable}
use Rattle.lj_book.specs.inner.VariableTables.{AreOwners, IsOwned, kept_variables}
use Rattle.lj_book.proofs.VariableLaws.{none_is_some, some_injective, nothing-replicate, Now, newly, before, now, keeps, gives}

-- the owner of a seat's variable
abbrev pub owner_of : ℕ → ℕ → Owner
owner_of s x = record { seat = s; variable = x }

pub one_owner : (top : ℕ) (owners : List Owner) (y : ℕ) (o p : Owner) → IsOwned top owners y o → IsOwned top owners y p → o ≡ p
one_owner top owners y o p a b =
    let same : a.at ≡ b.at = (let e = a.is in let f = b.is in omega arith) in
    injective o p (sym a.stands ∙ ap (slice_get owners) same ∙ b.stands)
  where
    injective : (o p : Owner) → Some o ≡ Some p → o ≡ p
    injective o p e = cc

pub within : {X : Type 0} (xs : List X) (k : ℕ) (x : X) → slice_get xs k ≡ Some x → k < length xs
within [] k x e = none_is_some None x refl e
within (y ∷ xs) zero x e = omega arith
within (y ∷ xs) (suc k) x e = let l = within xs k x e in omega arith

there : {X : Type 0} (xs : List X) (k : ℕ) → k < length xs → (x : X) × (slice_get xs k ≡ Some x)
there [] k h = absurd (omega arith)
there (y ∷ xs) zero h = (y, refl)
there (y ∷ xs) (suc k) h = there xs k (omega arith)

-- what the owners say are the seats' variables
pub owners-IsVariables : (top : ℕ) (ms : List Renaming) (owners : List Owner) → AreOwners top ms owners → IsVariables top (kept_variables top ms owners).variables
owners-IsVariables top ms owners are = record {
  one_to_one = λ s. record {
    above = λ a b e. ((are.above s a b e).0, higher b (owner_of s a) (are.given s a b e));
    apart = λ a c b e f. ap (λ (o : Owner). o.variable) (one_owner top owners b (owner_of s a) (owner_of s c) (are.given s a b e) (are.given s c b f));
  };
  apart = λ s t a c b e f. ap (λ (o : Owner). o.seat) (one_owner top owners b (owner_of s a) (owner_of t c) (are.given s a b e) (are.given t c b f));
  below = λ s a b e. lower b (owner_of s a) (are.given s a b e);
  all = λ y g h.
      let at = there owners (y - (top + 1)) (omega arith) in
      (at.0.seat, at.0.variable, are.owned (y - (top + 1)) at.0 at.1 ∙ ap Some (back y g));
  past = omega arith;
}
  where
    back : (y : ℕ) → top < y → top + 1 + (y - (top + 1)) ≡ y
    back y g = omega arith

    higher : (y : ℕ) (o : Owner) → IsOwned top owners y o → top < y
    higher y o owned = let e = owned.is in omega arith

    lower : (y : ℕ) (o : Owner) → IsOwned top owners y o → y < top + 1 + length owners
    lower y o owned = let e = owned.is in let l = within owners owned.at o owned.stands in omega arith

-- ---- the way back

get_none : (m : Renaming) (y : ℕ) → ((x : ℕ) → fin.get m y ≡ Some x → ⊥) → fin.get m y ≡ None
get_none m y h = by (fin.get m y) refl
  where
    by : (o : Option ℕ) → fin.get m y ≡ o → o ≡ None
    by None e = refl
    by (Some x) e = absurd (h x e)

module _ (top : ℕ) (ms : List Renaming) (owners : List Owner) (are : AreOwners top ms owners) (seat joint : ℕ) where
  -- a joint variable of the formula is nobody's
  pub own_low : joint ≤ top → fin.get (inverse (slice_index_or ms seat fin.empty)) joint ≡ None
  own_low low = get_none (inverse (slice_index_or ms seat fin.empty)) joint (λ x e.
      let o = are.given seat x joint (inverse_gives (slice_index_or ms seat fin.empty) x joint e) in
      let is = o.is in
      omega arith)

  -- nor is one that isn't given out
  pub own_past : top < joint → length owners ≤ joint - top - 1 → fin.get (inverse (slice_index_or ms seat fin.empty)) joint ≡ None
  own_past high past = get_none (inverse (slice_index_or ms seat fin.empty)) joint (λ x e.
      let o = are.given seat x joint (inverse_gives (slice_index_or ms seat fin.empty) x joint e) in
      let is = o.is in
      let l = within owners o.at (owner_of seat x) o.stands in
      omega arith)

  -- one that is has its owner
  module _ (high : top < joint) (owner : Owner) (at : slice_get owners (joint - top - 1) ≡ Some owner) where
    its_own : IsOwned top owners joint owner
    its_own = record { at = joint - top - 1; is = omega arith; stands = at }

    pub own_other : owner.seat ≢ seat → fin.get (inverse (slice_index_or ms seat fin.empty)) joint ≡ None
    own_other differ = get_none (inverse (slice_index_or ms seat fin.empty)) joint (λ x e.
        let o = are.given seat x joint (inverse_gives (slice_index_or ms seat fin.empty) x joint e) in
        differ (ap (λ (o : Owner). o.seat) (one_owner top owners joint owner (owner_of seat x) its_own o)))

    its_variable : owner.seat ≡ seat → fin.get (slice_index_or ms seat fin.empty) owner.variable ≡ Some joint
    its_variable same = ap (λ s. fin.get (slice_index_or ms s fin.empty) owner.variable) (sym same) ∙ are.owned (joint - top - 1) owner at ∙ ap Some its_own_is
      where
        its_own_is : top + 1 + (joint - top - 1) ≡ joint
        its_own_is = omega arith

    pub own_is : owner.seat ≡ seat → fin.get (inverse (slice_index_or ms seat fin.empty)) joint ≡ Some owner.variable
    own_is same = gives_inverse ((owners-IsVariables top ms owners are).one_to_one seat) owner.variable joint (its_variable same)

    pub own_range : owner.seat ≡ seat → (0 < owner.variable) × (owner.variable ≤ MAX_VARIABLE)
    own_range same = let b = are.above seat owner.variable joint (its_variable same) in (omega arith, b.1)

-- ---- a table without a variable

pub no_owners : (top seats : ℕ) (ms : List Renaming) (owners : List Owner) → top ≤ MAX_VARIABLE → ms ≡ replicate seats fin.empty → owners ≡ [] → AreOwners top ms owners
no_owners top seats ms owners low a b =
    let e = ap length b in
    record {
      few = omega arith;
      above = λ s x y g. none_is_some _ y (nothing s x) g;
      given = λ s x y g. none_is_some _ y (nothing s x) g;
      owned = λ k o g. none_is_some _ o (ap (λ os. slice_get os k) b) g;
    }
  where
    nothing : (s x : ℕ) → fin.get (slice_index_or ms s fin.empty) x ≡ None
    nothing s x = ap (λ (ns : List Renaming). fin.get (slice_index_or ns s fin.empty) x) a ∙ nothing-replicate seats s x

pub slice_get_at : {X : Type 0} (xs : List X) (k : ℕ) (d : X) → k < length xs → slice_get xs k ≡ Some (slice_index_or xs k d)
slice_get_at [] k d h = absurd (omega arith)
slice_get_at (x ∷ xs) zero d h = refl
slice_get_at (x ∷ xs) (suc k) d h = slice_get_at xs k d (omega arith)

-- a joint variable that a seat's own one has is within the limit
pub joint_range : (top : ℕ) (ms : List Renaming) (owners : List Owner) (seat x : ℕ) (o : Option ℕ) → AreOwners top ms owners → o ≡ fin.get (slice_index_or ms seat fin.empty) x → IfSome o (λ joint. (0 < joint) × (joint ≤ MAX_VARIABLE))
joint_range top ms owners seat x None are is = tt
joint_range top ms owners seat x (Some y) are is =
    let o = are.given seat x y (sym is) in
    let e = o.is in
    let l = within owners o.at (owner_of seat x) o.stands in
    let few = are.few in
    (omega arith, omega arith)

-- ---- one owner more

slice_get_push : {X : Type 0} (xs : List X) (x y : X) (k : ℕ) → slice_get xs k ≡ Some y → slice_get (xs ++ x ∷ []) k ≡ Some y
slice_get_push [] x y k e = none_is_some None y refl e
slice_get_push (z ∷ xs) x y zero e = e
slice_get_push (z ∷ xs) x y (suc k) e = slice_get_push xs x y k e

pub slice_get_last : {X : Type 0} (xs : List X) (x : X) → slice_get (xs ++ x ∷ []) (length xs) ≡ Some x
slice_get_last [] x = refl
slice_get_last (z ∷ xs) x = slice_get_last xs x

slice_get_cases : {X : Type 0} (xs : List X) (x y : X) (k : ℕ) → slice_get (xs ++ x ∷ []) k ≡ Some y → ((k ≡ length xs) × (x ≡ y)) ⊎ (slice_get xs k ≡ Some y)
slice_get_cases [] x y zero e = inl (refl, some_injective x y e)
slice_get_cases [] x y (suc k) e = none_is_some None y refl e
slice_get_cases (z ∷ xs) x y zero e = inr e
slice_get_cases (z ∷ xs) x y (suc k) e = ⊎_elim (λ both. inl (ap suc both.0, both.1)) (λ f. inr f) (slice_get_cases xs x y k e)

abbrev variables_kept : ℕ → List Renaming → List Owner → Variables
variables_kept top ms owners = (kept_variables top ms owners).variables

pub AreOwners-push : (top : ℕ) (ms : List Renaming) (owners : List Owner) (seat x : ℕ) → AreOwners top ms owners → seat < length ms → top < x → x ≤ MAX_VARIABLE → fin.get (slice_index_or ms seat fin.empty) x ≡ None → top + 1 + length owners ≤ MAX_VARIABLE → AreOwners top (with_variable (variables_kept top ms owners) seat x).of_seats (owners ++ owner_of seat x ∷ [])
AreOwners-push top ms owners seat x are here above low free left = record {
  few = let e = length-append owners (owner_of seat x ∷ []) in omega arith;
  above = λ s z y g. bounds s z y (now (variables_kept top ms owners) seat x here s z y g);
  given = λ s z y g. owner s z y (now (variables_kept top ms owners) seat x here s z y g);
  owned = λ k o g. ⊎_elim (λ both. newest k o both.0 both.1) (λ h. keeps (variables_kept top ms owners) seat x here free o.seat o.variable (top + 1 + k) (are.owned k o h)) (slice_get_cases owners (owner_of seat x) o k g);
}
  where
    bounds : (s z y : ℕ) → Now (variables_kept top ms owners) seat x s z y → (top < z) × (z ≤ MAX_VARIABLE)
    bounds s z y (newly p q r) = (subst (λ n. top < n) (sym q) above, subst (λ n. n ≤ MAX_VARIABLE) (sym q) low)
    bounds s z y (before g) = are.above s z y g

    owner : (s z y : ℕ) → Now (variables_kept top ms owners) seat x s z y → IsOwned top (owners ++ owner_of seat x ∷ []) y (owner_of s z)
    owner s z y (newly p q r) = record {
      at = length owners;
      is = r;
      stands = slice_get_last owners (owner_of seat x) ∙ (λ i. Some (owner_of (sym p i) (sym q i)));
    }
    owner s z y (before g) = let o = are.given s z y g in record {
      at = o.at;
      is = o.is;
      stands = slice_get_push owners (owner_of seat x) (owner_of s z) o.at o.stands;
    }

    newest : (k : ℕ) (o : Owner) → k ≡ length owners → owner_of seat x ≡ o → fin.get (slice_index_or (with_variable (variables_kept top ms owners) seat x).of_seats o.seat fin.empty) o.variable ≡ Some (top + 1 + k)
    newest k o at is =
        sym (ap (λ (p : Owner). fin.get (slice_index_or (with_variable (variables_kept top ms owners) seat x).of_seats p.seat fin.empty) p.variable) is)
        ∙ gives (variables_kept top ms owners) seat x here
        ∙ ap (λ n. Some (top + 1 + n)) (sym at)

-- ---- the last owner less

get_removed : (m : Renaming) (k q : ℕ) → fin.get (fin.remove m k) q ≡ cond (q == k) None (fin.get m q)
get_removed m k q = fin.get-remove nat_cmp_total m k q ∙ ap (λ b. cond b None (fin.get m q)) (unsigned_tied q k)

module _ (top : ℕ) (ms : List Renaming) (rest : List Owner) (o : Owner) (are : AreOwners top ms (rest ++ o ∷ [])) where
  pub last_given : fin.get (slice_index_or ms o.seat fin.empty) o.variable ≡ Some (top + 1 + length rest)
  last_given = are.owned (length rest) o (slice_get_last rest o)

  pub last_here : o.seat < length ms
  last_here = ⊎_elim (λ l. l)
      (λ past. none_is_some (fin.get (slice_index_or ms o.seat fin.empty) o.variable) (top + 1 + length rest)
      (ap (λ (m : Renaming). fin.get m o.variable) (get_or_past ms o.seat fin.empty past) ∙ fin.get-empty nat_cmp o.variable) last_given)
      (cases_lt o.seat (length ms))

  abbrev pub less : List Renaming
  less = slice_set ms o.seat (fin.remove (slice_index_or ms o.seat fin.empty) o.variable)

  -- what the renamings have then
  pub data Left (s z y : ℕ) : Type 0 where
    left : fin.get (slice_index_or ms s fin.empty) z ≡ Some y → owner_of s z ≢ o → Left s z y

  get_less : (s z : ℕ) → s ≡ o.seat → fin.get (slice_index_or less s fin.empty) z ≡ cond (z == o.variable) None (fin.get (slice_index_or ms s fin.empty) z)
  get_less s z is =
      ap (λ (m : Renaming). fin.get m z) (ap (λ t. slice_index_or less t fin.empty) is ∙ get_or-set_same ms o.seat (fin.remove (slice_index_or ms o.seat fin.empty) o.variable) fin.empty last_here)
      ∙ get_removed (slice_index_or ms o.seat fin.empty) o.variable z
      ∙ ap (λ t. cond (z == o.variable) None (fin.get (slice_index_or ms t fin.empty) z)) (sym is)

  get_less_other : (s z : ℕ) → s ≢ o.seat → fin.get (slice_index_or less s fin.empty) z ≡ fin.get (slice_index_or ms s fin.empty) z
  get_less_other s z h = ap (λ (m : Renaming). fin.get m z) (get_or-set_other ms o.seat s (fin.remove (slice_index_or ms o.seat fin.empty) o.variable) fin.empty h)

  pub was_given : (s z y : ℕ) → fin.get (slice_index_or less s fin.empty) z ≡ Some y → Left s z y
  was_given s z y g = ⊎_elim
      (λ is. ⊎_elim
      (λ same. none_is_some (fin.get (slice_index_or less s fin.empty) z) y (get_less s z is ∙ ap (λ b. cond b None (fin.get (slice_index_or ms s fin.empty) z)) (eq-eqb z o.variable same)) g)
      (λ other. left (sym (get_less s z is ∙ ap (λ b. cond b None (fin.get (slice_index_or ms s fin.empty) z)) (ne_eqb z o.variable other)) ∙ g) (λ e. other (ap (λ (p : Owner). p.variable) e)))
      (cases_eq z o.variable))
      (λ differ. left (sym (get_less_other s z differ) ∙ g) (λ e. differ (ap (λ (p : Owner). p.seat) e)))
      (cases_eq s o.seat)

  pub still_given : (s z y : ℕ) → fin.get (slice_index_or ms s fin.empty) z ≡ Some y → owner_of s z ≢ o → fin.get (slice_index_or less s fin.empty) z ≡ Some y
  still_given s z y g differ = ⊎_elim
      (λ is. get_less s z is ∙ ap (λ b. cond b None (fin.get (slice_index_or ms s fin.empty) z)) (ne_eqb z o.variable (λ same. differ (λ i. owner_of (is i) (same i)))) ∙ g)
      (λ other. get_less_other s z other ∙ g)
      (cases_eq s o.seat)

  pub AreOwners-pop : AreOwners top less rest
  AreOwners-pop = record {
    few = let e = length-append rest (o ∷ []) in let f = are.few in omega arith;
    above = λ s z y g. bounds s z y (was_given s z y g);
    given = λ s z y g. owner s z y (was_given s z y g);
    owned = λ k p g. still_given p.seat p.variable (top + 1 + k) (are.owned k p (slice_get_push rest o p k g)) (λ e. absurd (earlier k p g e));
  }
    where
      bounds : (s z y : ℕ) → Left s z y → (top < z) × (z ≤ MAX_VARIABLE)
      bounds s z y (left g differ) = are.above s z y g

      owner : (s z y : ℕ) → Left s z y → IsOwned top rest y (owner_of s z)
      owner s z y (left g differ) = let p = are.given s z y g in record {
        at = p.at;
        is = p.is;
        stands = ⊎_elim (λ both. absurd (differ (sym both.1))) (λ e. e) (slice_get_cases rest o (owner_of s z) p.at p.stands);
      }

      earlier : (k : ℕ) (p : Owner) → slice_get rest k ≡ Some p → p ≡ o → ⊥
      earlier k p g e =
          let l = within rest k p g in
          let same = some_injective (top + 1 + k) (top + 1 + length rest) (sym (are.owned k p (slice_get_push rest o p k g)) ∙ ap (λ (p : Owner). fin.get (slice_index_or ms p.seat fin.empty) p.variable) e ∙ last_given) in
          omega arith
