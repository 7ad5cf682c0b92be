-- Joint variables that are taken back.
use Rattle.std.proofs.Common.{◌≡◌, ap, refl, sym, ◌∙◌, subst, inl, inr, ⊎_elim, ℕ, ◌+◌, ◌<◌, ◌≤◌, Bool, cond, true, false, arith}
use Rattle.std.specs.Prelude.{◌≢◌, ◌⊎◌, T, nat_lt, List, [], ◌∷◌, ◌++◌, map, filter, length, Option, Some, None, slice_index_or, slice_set}
use Rattle.std.proofs.lemmas.List.{get_or-map, length-set, length-map, length-append, map-set, set-get_or, ext_get_or}
use Rattle.std.proofs.lemmas.Map.Entries.{option_filter}
use Rattle.std.proofs.lemmas.Bool.{cases_eq, cases_lt, eqb-true, lt-ltb, le-ltb}
use Rattle.std.specs.Ordering.{nat_cmp, eq_by_cmp}
use Rattle.std.specs.Cmp.{nat_cmp_total, unsigned_tied}
use Rattle.std.specs.FinMap as fin
use Rattle.std.specs.FinMap.Entries.{find, is_sorted}
use Rattle.lj_clause.proofs.Tests.{left_of, right_of}
use Rattle.lj_clause.proofs.SortedEntries.{none_below}
use Rattle.lj_clause.specs.Renaming.{Renaming}
use Rattle.lj_book.specs.declared.variable_table.Owner.{Owner}
use Rattle.lj_book.specs.Variables.{Variables, IsVariables, renaming_of, with_variable}
use Rattle.lj_book.specs.inner.VariableTables.{AreOwners, IsOwned, kept_variables, variables_at, variables_before, renaming_below}
use Rattle.lj_book.proofs.NumberMaps.{same_map}
use Rattle.lj_book.proofs.VariableLaws.{none_is_some, some_injective, get_put_here, get_put_other}
use Rattle.lj_book.proofs.VariableTables.{within, slice_get_last, less, was_given, still_given, last_given, one_owner, owner_of, Left, left}

-- ---- one renaming

abbrev below_test : ℕ → ℕ → Bool
below_test n y = nat_lt y n

find-filtered : (p : ℕ → Bool) (q : ℕ) (es : List (ℕ × ℕ)) → T (is_sorted nat_cmp es) → find nat_cmp q (filter (λ e. p e.1) es) ≡ option_filter p (find nat_cmp q es)
find-filtered p q [] sorted = refl
find-filtered p q (e ∷ es) sorted = by (find-filtered p q es (right_of _ _ sorted)) (p e.1) (eq_by_cmp nat_cmp q e.0) refl refl
  where
    none_more : eq_by_cmp nat_cmp q e.0 ≡ true → find nat_cmp q es ≡ None
    none_more t = ap (λ k. find nat_cmp k es) (eqb-true q e.0 (sym (unsigned_tied q e.0) ∙ t)) ∙ none_below e.0 es (left_of _ _ sorted)

    by : find nat_cmp q (filter (λ e. p e.1) es) ≡ option_filter p (find nat_cmp q es) → (a b : Bool) → p e.1 ≡ a → eq_by_cmp nat_cmp q e.0 ≡ b → find nat_cmp q (cond (p e.1) (e ∷ filter (λ e. p e.1) es) (filter (λ e. p e.1) es)) ≡ option_filter p (cond (eq_by_cmp nat_cmp q e.0) (Some e.1) (find nat_cmp q es))
    by rest true true pa tb =
        ap (λ c. find nat_cmp q (cond c (e ∷ filter (λ e. p e.1) es) (filter (λ e. p e.1) es))) pa
        ∙ ap (λ c. cond c (Some e.1) (find nat_cmp q (filter (λ e. p e.1) es))) tb
        ∙ sym (ap (λ c. option_filter p (cond c (Some e.1) (find nat_cmp q es))) tb ∙ ap (λ c. cond c (Some e.1) None) pa)
    by rest true false pa tb =
        ap (λ c. find nat_cmp q (cond c (e ∷ filter (λ e. p e.1) es) (filter (λ e. p e.1) es))) pa
        ∙ ap (λ c. cond c (Some e.1) (find nat_cmp q (filter (λ e. p e.1) es))) tb
        ∙ rest ∙ sym (ap (λ c. option_filter p (cond c (Some e.1) (find nat_cmp q es))) tb)
    by rest false true pa tb =
        ap (λ c. find nat_cmp q (cond c (e ∷ filter (λ e. p e.1) es) (filter (λ e. p e.1) es))) pa
        ∙ rest ∙ ap (option_filter p) (none_more tb)
        ∙ sym (ap (λ c. option_filter p (cond c (Some e.1) (find nat_cmp q es))) tb ∙ ap (λ c. cond c (Some e.1) None) pa)
    by rest false false pa tb =
        ap (λ c. find nat_cmp q (cond c (e ∷ filter (λ e. p e.1) es) (filter (λ e. p e.1) es))) pa
        ∙ rest ∙ sym (ap (λ c. option_filter p (cond c (Some e.1) (find nat_cmp q es))) tb)

pub get-renaming_below : (n : ℕ) (m : Renaming) (q : ℕ) → fin.get (renaming_below n m) q ≡ option_filter (below_test n) (fin.get m q)
get-renaming_below n m q =
    fin.get-from_entries nat_cmp_total (filter (λ (e : ℕ × ℕ). nat_lt e.1 n) (fin.entries m)) q
    ∙ find-filtered (below_test n) q (fin.entries m) (fin.entries_sorted m)
    ∙ ap (option_filter (below_test n)) (sym (fin.get-entries m q))

filter_twice : (a b : ℕ) → a ≤ b → (o : Option ℕ) → option_filter (below_test a) (option_filter (below_test b) o) ≡ option_filter (below_test a) o
filter_twice a b le None = refl
filter_twice a b le (Some y) = ⊎_elim
    (λ l. ap (λ c. option_filter (below_test a) (cond c (Some y) None)) (lt-ltb y b l))
    (λ l. ap (λ c. option_filter (below_test a) (cond c (Some y) None)) (le-ltb y b l) ∙ sym (ap (λ c. cond c (Some y) None) (le-ltb y a (omega arith))))
    (cases_lt y b)

below_below : (a b : ℕ) → a ≤ b → (m : Renaming) → renaming_below a (renaming_below b m) ≡ renaming_below a m
below_below a b le m = same_map _ _ (λ q.
    get-renaming_below a (renaming_below b m) q ∙ ap (option_filter (below_test a)) (get-renaming_below b m q) ∙ filter_twice a b le (fin.get m q) ∙ sym (get-renaming_below a m q))

below_put : (n : ℕ) (m : Renaming) (x y : ℕ) → fin.get m x ≡ None → n ≤ y → renaming_below n (fin.insert m x y) ≡ renaming_below n m
below_put n m x y free le = same_map _ _ (λ q. get-renaming_below n (fin.insert m x y) q ∙ by q (cases_eq q x) ∙ sym (get-renaming_below n m q))
  where
    by : (q : ℕ) → (q ≡ x) ⊎ (q ≢ x) → option_filter (below_test n) (fin.get (fin.insert m x y) q) ≡ option_filter (below_test n) (fin.get m q)
    by q (inl is) =
        ap (option_filter (below_test n)) (ap (fin.get (fin.insert m x y)) is ∙ get_put_here m x y)
        ∙ ap (λ c. cond c (Some y) None) (le-ltb y n le)
        ∙ sym (ap (option_filter (below_test n)) (ap (fin.get m) is ∙ free))
    by q (inr other) = ap (option_filter (below_test n)) (get_put_other m x y q other)

below_all_of : (n : ℕ) (m : Renaming) → ((x y : ℕ) → fin.get m x ≡ Some y → y < n) → renaming_below n m ≡ m
below_all_of n m low = same_map _ _ (λ q. get-renaming_below n m q ∙ by q (fin.get m q) refl)
  where
    by : (q : ℕ) (o : Option ℕ) → fin.get m q ≡ o → option_filter (below_test n) (fin.get m q) ≡ fin.get m q
    by q None e = ap (option_filter (below_test n)) e ∙ sym e
    by q (Some y) e = ap (option_filter (below_test n)) e ∙ ap (λ c. cond c (Some y) None) (lt-ltb y n (low q y e)) ∙ sym e

-- ---- those of all seats

abbrev at_next : List Renaming → ℕ → Variables
at_next ms n = record { of_seats = ms; next = n }

maps_below : (a b : ℕ) → a ≤ b → (ms : List Renaming) → map (renaming_below a) (map (renaming_below b) ms) ≡ map (renaming_below a) ms
maps_below a b le [] = refl
maps_below a b le (m ∷ ms) = λ i. below_below a b le m i ∷ maps_below a b le ms i

pub variables_before-variables_before : (a b : ℕ) (v : Variables) → a ≤ b → variables_before a (variables_before b v) ≡ variables_before a v
variables_before-variables_before a b v le = ap (λ ms. at_next ms a) (maps_below a b le v.of_seats)

-- where one more was given, no less is left
pub variables_before-with_variable : (n : ℕ) (v : Variables) (seat x : ℕ) → fin.get (renaming_of v seat) x ≡ None → n ≤ v.next → variables_before n (with_variable v seat x) ≡ variables_before n v
variables_before-with_variable n v seat x free le = ap (λ ms. at_next ms n)
    (map-set (renaming_below n) v.of_seats seat (fin.insert (renaming_of v seat) x v.next)
    ∙ ap (slice_set (map (renaming_below n) v.of_seats) seat) (below_put n (renaming_of v seat) x v.next free le)
    ∙ sym (map-set (renaming_below n) v.of_seats seat (renaming_of v seat))
    ∙ ap (map (renaming_below n)) (set-get_or v.of_seats seat fin.empty))

-- taken back to the next one, nothing is
pub variables_before-next : (top : ℕ) (v : Variables) → IsVariables top v → variables_before v.next v ≡ v
variables_before-next top v is = ap (λ ms. at_next ms v.next) (ext_get_or fin.empty (map (renaming_below v.next) v.of_seats) v.of_seats (length-map v.of_seats (renaming_below v.next)) (λ i l.
    get_or-map (renaming_below v.next) v.of_seats i fin.empty fin.empty (subst (λ n. i < n) (length-map v.of_seats (renaming_below v.next)) l)
    ∙ below_all_of v.next (renaming_of v i) (λ x y g. is.below i x y g)))

-- what the table is without its last owner
module _ (top : ℕ) (ms : List Renaming) (rest : List Owner) (o : Owner) (are : AreOwners top ms (rest ++ o ∷ [])) where
  not_last : (i q y : ℕ) → fin.get (slice_index_or ms i fin.empty) q ≡ Some y → y < top + 1 + length rest → owner_of i q ≡ o → ⊥
  not_last i q y e l is =
      let same : top + 1 + length rest ≡ y = some_injective (top + 1 + length rest) y
      (sym (last_given top ms rest o are) ∙ sym (ap (λ (p : Owner). fin.get (slice_index_or ms p.seat fin.empty) p.variable) is) ∙ e) in
      omega arith

  -- a joint variable whose owner isn't the last is below it
  earlier : (i q y : ℕ) → fin.get (slice_index_or ms i fin.empty) q ≡ Some y → owner_of i q ≢ o → y < top + 1 + length rest
  earlier i q y e differ = ⊎_elim (λ l. l) (λ l. absurd (differ (one_owner top (rest ++ o ∷ []) y (owner_of i q) o owned (lasts l)))) (cases_lt y (top + 1 + length rest))
    where
      owned : IsOwned top (rest ++ o ∷ []) y (owner_of i q)
      owned = are.given i q y e

      lasts : top + 1 + length rest ≤ y → IsOwned top (rest ++ o ∷ []) y o
      lasts l = record {
        at = length rest;
        is = (let b = owned.is in let w = within (rest ++ o ∷ []) owned.at (owner_of i q) owned.stands in let n = length-append rest (o ∷ []) in omega arith);
        stands = slice_get_last rest o;
      }

  pub less_below : (i q : ℕ) → fin.get (slice_index_or (less top ms rest o are) i fin.empty) q ≡ option_filter (below_test (top + 1 + length rest)) (fin.get (slice_index_or ms i fin.empty) q)
  less_below i q = by (fin.get (slice_index_or (less top ms rest o are) i fin.empty) q) (fin.get (slice_index_or ms i fin.empty) q) refl refl
    where
      both : (x y : ℕ) → Left top ms rest o are i q x → fin.get (slice_index_or ms i fin.empty) q ≡ Some y → Some x ≡ cond (nat_lt y (top + 1 + length rest)) (Some y) None
      both x y (left g differ) f = sym g ∙ f ∙ sym (ap (λ c. cond c (Some y) None) (lt-ltb y (top + 1 + length rest) (earlier i q y f (λ e. absurd (differ e)))))

      one : (x : ℕ) → Left top ms rest o are i q x → fin.get (slice_index_or ms i fin.empty) q ≡ None → Some x ≡ None
      one x (left g differ) f = sym g ∙ f

      by : (a b : Option ℕ) → fin.get (slice_index_or (less top ms rest o are) i fin.empty) q ≡ a → fin.get (slice_index_or ms i fin.empty) q ≡ b → a ≡ option_filter (below_test (top + 1 + length rest)) b
      by None None e f = refl
      by (Some x) None e f = one x (was_given top ms rest o are i q x e) f
      by (Some x) (Some y) e f = both x y (was_given top ms rest o are i q x e) f
      by None (Some y) e f = ⊎_elim
          (λ l. none_is_some (fin.get (slice_index_or (less top ms rest o are) i fin.empty) q) y e (still_given top ms rest o are i q y f (λ is. not_last i q y f l is)))
          (λ l. sym (ap (λ c. cond c (Some y) None) (le-ltb y (top + 1 + length rest) l)))
          (cases_lt y (top + 1 + length rest))

  pub kept-less : kept_variables top (less top ms rest o are) rest ≡ variables_at top (variables_before (top + 1 + length rest) (kept_variables top ms (rest ++ o ∷ [])).variables)
  kept-less = ap (λ ns. variables_at top (at_next ns (top + 1 + length rest)))
      (ext_get_or fin.empty (less top ms rest o are) (map (renaming_below (top + 1 + length rest)) ms) (same_length) (λ i l.
      same_map _ _ (λ q. less_below i q
      ∙ sym (get-renaming_below (top + 1 + length rest) (slice_index_or ms i fin.empty) q))
      ∙ sym (get_or-map (renaming_below (top + 1 + length rest)) ms i fin.empty fin.empty (subst (λ n. i < n) shorter l))))
    where
      shorter : length (less top ms rest o are) ≡ length ms
      shorter = length-set ms o.seat (fin.remove (slice_index_or ms o.seat fin.empty) o.variable)

      same_length : length (less top ms rest o are) ≡ length (map (renaming_below (top + 1 + length rest)) ms)
      same_length = shorter ∙ sym (length-map ms (renaming_below (top + 1 + length rest)))
