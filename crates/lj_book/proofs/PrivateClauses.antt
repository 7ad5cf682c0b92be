-- A live clause with a variable that a seat was given is held by that seat.
use Rattle.std.proofs.Common.{◌≡◌, ap, refl, sym, ◌∙◌, subst, ℕ, zero, suc, ◌<◌, Bool, cond, true, false, inl, inr, arith}
use Rattle.std.specs.Prelude.{ℤ, T, List, [], ◌∷◌, map, Option, Some, None, is_some, option_map, option_and_then, nat_le, ◌==◌, unwrap_or}
use Rattle.std.proofs.lemmas.Bool.{false≢true, or_cases, eqb-true}
use Rattle.std.proofs.lemmas.Bool.Decides.{nat_tests}
use Rattle.std.specs.Ordering.{nat_cmp, eq_by_cmp, is_eq}
use Rattle.std.specs.Cmp.{nat_cmp_total, unsigned_tied, tied_itself}
use Rattle.std.specs.FinMap as fin
use Rattle.std.specs.FinMap.Entries.{find, is_sorted}
use Rattle.lj_clause.specs.Literal.{variable_of}
use Rattle.lj_clause.specs.LiteralSet.{LiteralSet, holds, no_literals}
use Rattle.lj_clause.specs.ClauseMap.{IsFormula}
use Rattle.lj_clause.specs.Renaming.{inverse, has_name}
use Rattle.lj_clause.proofs.Tests.{left_of, right_of}
use Rattle.lj_clause.proofs.SortedEntries.{none_below}
use Rattle.lj_clause.proofs.Renaming.{all_known, inverse_gives}
use Rattle.lj_book.specs.Tables.{Table, Tables, table_of, joint_of, is_among, holds_joint, has_holder}
use Rattle.lj_book.specs.State.{State, given_out, live}
use Rattle.lj_book.specs.Solo.{holdings_of, with_clause, view_of}
use Rattle.lj_book.specs.Variables.{Variables, renaming_of, is_own, IsGiven}
use Rattle.lj_book.specs.Named.{NamedState, top_of, beneath, IsNamedReached}
use Rattle.lj_book.specs.NamedViews.{pair_at, IsKnownAs, PrivateAreHeld}
use Rattle.lj_book.proofs.SoloTables.{get-holdings}
use Rattle.lj_book.proofs.SoloStates.{live-given}
use Rattle.lj_book.proofs.HistoryLaws.{get-live}
use Rattle.lj_book.proofs.NamedLaws.{Grows, same_grows, rules_reached}
use Rattle.lj_book.proofs.OwnHoldings.{seats_hold_own}

-- ---- a number that is held is bound in some table

bound_at : (es : List (ℕ × ℕ)) (joint : ℕ) → T (is_sorted nat_cmp es) → is_among (map (λ (e : ℕ × ℕ). e.1) es) joint ≡ true → (own : ℕ) × (find nat_cmp own es ≡ Some joint)
bound_at [] joint sorted h = absurd (false≢true h)
bound_at (e ∷ es) joint sorted h =
    elim (or_cases (e.1 == joint) (is_among (map (λ (f : ℕ × ℕ). f.1) es) joint) h) [
      | inl is ↦ (e.0, ap (λ r. cond (is_eq r) (Some e.1) (find nat_cmp e.0 es)) (tied_itself nat_cmp_total e.0) ∙ ap Some (eqb-true e.1 joint is))
      | inr there ↦ later (bound_at es joint (right_of _ _ sorted) there)
    ]
  where
    later : (own : ℕ) × (find nat_cmp own es ≡ Some joint) → (own : ℕ) × (find nat_cmp own (e ∷ es) ≡ Some joint)
    later found = (
      found.0,
      elim (eq_by_cmp nat_cmp found.0 e.0) as (λ b. eq_by_cmp nat_cmp found.0 e.0 ≡ b → cond b (Some e.1) (find nat_cmp found.0 es) ≡ Some joint) [
        | true ↦ λ t.
            let is : found.0 ≡ e.0 = eqb-true found.0 e.0 (sym (unsigned_tied found.0 e.0) ∙ t) in
            absurd (false≢true (sym (ap is_some (ap (λ n. find nat_cmp n es) is ∙ none_below e.0 es (left_of _ _ sorted))) ∙ ap is_some found.1))
        | false ↦ λ t. found.1
      ] refl,
    )

bound_in : (t : Option Table) (joint : ℕ) → holds_joint joint t ≡ true → (own : ℕ) × (option_and_then (λ (u : Table). fin.get u own) t ≡ Some joint)
bound_in None joint h = absurd (false≢true h)
bound_in (Some t) joint h = let found = bound_at (fin.entries t) joint (fin.entries_sorted t) h in (found.0, fin.get-entries t found.0 ∙ found.1)

-- A number of some seat that is bound to the joint number.
pub record Holder (ts : Tables) (joint : ℕ) : Type 0 where
  pub seat : ℕ
  pub own : ℕ
  pub bound : joint_of ts seat own ≡ Some joint

pub holder : (ts : Tables) (joint : ℕ) → has_holder ts joint ≡ true → Holder ts joint
holder [] joint h = absurd (false≢true h)
holder (t ∷ ts) joint h =
    elim (or_cases (holds_joint joint t) (has_holder ts joint) h) [
      | inl here ↦ (let found = bound_in t joint here in record { seat = zero; own = found.0; bound = found.1 })
      | inr there ↦ (let found = holder ts joint there in record { seat = suc found.seat; own = found.own; bound = found.bound })
    ]

-- ---- a live clause is held by some seat

module _ (s : State) (joint : ℕ) (c : LiteralSet) (lives : fin.get (live s) joint ≡ Some c) where
  pub live_held : has_holder s.tables joint ≡ true
  live_held = by (has_holder s.tables joint) refl (sym (get-live s joint) ∙ lives)
    where
      by : (b : Bool) → has_holder s.tables joint ≡ b → cond b (fin.get (given_out s) joint) None ≡ Some c → has_holder s.tables joint ≡ true
      by true is e = is
      by false is e = absurd (cc)

  pub seen_with : (seat own : ℕ) → joint_of s.tables seat own ≡ Some joint → pair_at (view_of s seat) own ≡ Some (record { joint = joint; clause = c })
  seen_with seat own bound = by (table_of s.tables seat) bound
    where
      by : (t : Option Table) → option_and_then (λ (u : Table). fin.get u own) t ≡ Some joint → pair_at (option_map (holdings_of (given_out s)) t) own ≡ Some (record { joint = joint; clause = c })
      by None e = absurd (cc)
      by (Some t) e =
          get-holdings (given_out s) t own ∙ ap (option_map (with_clause (given_out s))) e
          ∙ ap (λ (o : Option LiteralSet). Some (record { joint = joint; clause = unwrap_or o no_literals })) (live-given s joint c lives)

-- ---- whose it is

module _ (s : NamedState) (is : IsFormula s.formula) (reached : IsNamedReached s) (w : Variables) (grows : Grows (top_of s) s.variables w) (seat x joint : ℕ) (c : LiteralSet) (l : ℤ) where
  -- a seat whose own it is, with a variable of another
  one_seat : (t : ℕ) → is_own (top_of s) s.variables t c ≡ true → holds c l ≡ true → IsGiven w seat x (variable_of l) → t ≡ seat
  one_seat t own has given =
      let y : ℕ = variable_of l in
      let above = ((grows.rules.one_to_one seat).above x y given).1 in
      by y above given (fin.get (inverse (renaming_of s.variables t)) y) refl (all_known (top_of s) (inverse (renaming_of s.variables t)) c own l has)
    where
      by : (y : ℕ) → top_of s < y → IsGiven w seat x y → (o : Option ℕ) → fin.get (inverse (renaming_of s.variables t)) y ≡ o → has_name (top_of s) (inverse (renaming_of s.variables t)) y ≡ true → t ≡ seat
      by y above given None at h = elim (or_cases (nat_le y (top_of s)) (fin.contains_key (inverse (renaming_of s.variables t)) y) h) [
        | inl low ↦ absurd (past y (top_of s) above low)
        | inr there ↦ absurd (false≢true (sym (ap is_some at) ∙ there))
      ]
        where
          past : (y v : ℕ) → v < y → nat_le y v ≡ true → ⊥
          past y v h e = grind (arith, nat_tests)
      by y above given (Some z) at h = grows.rules.apart t seat z x y (grows.part t z y (inverse_gives (renaming_of s.variables t) z y at)) given

  pub held_by : fin.get (live (beneath s)) joint ≡ Some c → holds c l ≡ true → IsGiven w seat x (variable_of l) → IsKnownAs s seat joint c
  held_by lives has given =
      let found = holder s.tables joint (live_held (beneath s) joint c lives) in
      let seen = seen_with (beneath s) joint c lives found.seat found.own found.bound in
      let mine = seats_hold_own s found.seat found.own (record { joint = joint; clause = c }) is reached seen in
      subst (λ (t : ℕ). IsKnownAs s t joint c) (one_seat found.seat mine has given) (found.own, seen)

pub private_held : PrivateAreHeld
private_held s seat x joint c l is reached lives has given =
    let held = held_by s is reached s.variables (same_grows s (rules_reached s reached)) seat x joint c l lives has given in
    (seats_hold_own s seat held.0 (record { joint = joint; clause = c }) is reached held.1, held)
