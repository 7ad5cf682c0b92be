-- The candidates of a private pivot are among the clauses that its seat sees, and so their test ends alike.
use Rattle.std.proofs.Common.{◌≡◌, ap, refl, sym, ◌∙◌, subst, ℕ, zero, suc, ◌<◌, Bool, cond, true, false, inl, inr, length, arith}
use Rattle.std.specs.Prelude.{ℤ, pos, negsuc, neg_ℤ, List, [], ◌∷◌, map, All, Option, Some, None, option_map, option_and_then, is_some, unwrap_or, nat_le, slice_index_or}
use Rattle.std.specs.List.{AllByRecursion}
use Rattle.std.proofs.lemmas.Bool.{false≢true, or_right, or_cases}
use Rattle.std.proofs.lemmas.Bool.Decides.{nat_tests}
use Rattle.std.proofs.lemmas.List.Elements.{recursion_from_All}
use Rattle.std.specs.Ordering.{nat_cmp}
use Rattle.std.specs.FinMap as fin
use Rattle.lj_clause.specs.Literal.{variable_of}
use Rattle.lj_clause.specs.LiteralSet.{LiteralSet, holds, no_literals}
use Rattle.lj_clause.specs.ClauseMap.{ClauseMap, IsFormula}
use Rattle.lj_clause.specs.Propagation.{hints_in}
use Rattle.lj_clause.specs.Rat.{HintGroup, groups_in, candidates, rat_over, rat}
use Rattle.lj_clause.specs.Renaming.{Renaming, renamed, literal_image, image, has_name, is_named, inverse, entry_image, clauses_image, AreNamed}
use Rattle.lj_clause.proofs.Renaming.{all_known, get-clauses_image}
use Rattle.lj_hint.specs.declared.pair.Pair.{Pair}
use Rattle.lj_hint.proofs.Images.{tests_commute}
use Rattle.lj_book.specs.Tables.{Table, table_of, joint_of}
use Rattle.lj_book.specs.State.{State, given_out, live}
use Rattle.lj_book.specs.Solo.{holdings_of, with_clause, view_of}
use Rattle.lj_book.specs.Variables.{Variables, renaming_of, IsGiven}
use Rattle.lj_book.specs.Named.{NamedState, top_of, names_of, beneath, given_in, IsNamedReached}
use Rattle.lj_book.specs.NamedViews.{named_view, pair_at, seen_clauses, names_with, IsPrivatePivot, PrivateCandidates, GivenCandidates, NewPivotsHaveNone, PrivateRat}
use Rattle.lj_book.proofs.NumberMaps.{same_map}
use Rattle.lj_book.proofs.HistoryLaws.{IsSound-reached}
use Rattle.lj_book.proofs.SoloTables.{get-holdings}
use Rattle.lj_book.proofs.SoloStates as states
use Rattle.lj_book.proofs.GivenLaws.{length-given}
use Rattle.lj_book.proofs.NamedLaws.{Grows, same_grows, given_grows_within, rules_reached, beneath_is_reached}
use Rattle.lj_book.proofs.OwnHoldings.{seats_hold_own, pair_back, turned_variable}
use Rattle.lj_book.proofs.SeenClauses.{where_so, same_where, none_where, seen_has_holder, held_is_seen, seen-image}
use Rattle.lj_book.proofs.PrivateClauses.{held_by}

-- ---- what is held lives

module _ (s : State) (given : states.IsGiven s) (seat own joint : ℕ) (c : LiteralSet) where
  held_lives : pair_at (view_of s seat) own ≡ Some (record { joint = joint; clause = c }) → fin.get (live s) joint ≡ Some c
  held_lives h = by_table (table_of s.tables seat) refl h
    where
      by_clause : (o : Option LiteralSet) → fin.get (given_out s) joint ≡ o → is_some o ≡ true → unwrap_or o no_literals ≡ c → fin.get (given_out s) joint ≡ Some c
      by_clause None at there e = absurd (false≢true there)
      by_clause (Some d) at there e = at ∙ ap Some e

      by_number : (t : Table) → table_of s.tables seat ≡ Some t → (o : Option ℕ) → fin.get t own ≡ o → option_map (with_clause (given_out s)) o ≡ Some (record { joint = joint; clause = c }) → fin.get (live s) joint ≡ Some c
      by_number t at None is e = absurd (cc)
      by_number t at (Some j) is e =
          let same : ◌≡◌ {A = Pair} (with_clause (given_out s) j) (record { joint = joint; clause = c }) = cc in
          let number : j ≡ joint = ap (λ (p : Pair). p.joint) same in
          let bound : joint_of s.tables seat own ≡ Some joint = ap (option_and_then (λ (u : Table). fin.get u own)) at ∙ is ∙ ap Some number in
          states.live-bound s seat own joint bound
          ∙ by_clause (fin.get (given_out s) joint) refl (given.bound_given seat own joint bound)
          (ap (λ n. unwrap_or (fin.get (given_out s) n) no_literals) (sym number) ∙ ap (λ (p : Pair). p.clause) same)

      by_table : (t : Option Table) → table_of s.tables seat ≡ t → pair_at (option_map (holdings_of (given_out s)) t) own ≡ Some (record { joint = joint; clause = c }) → fin.get (live s) joint ≡ Some c
      by_table None at e = absurd (cc)
      by_table (Some t) at e = by_number t at (fin.get t own) refl (sym (get-holdings (given_out s) t own) ∙ e)

-- ---- variables of negations

image_variable : (m : Renaming) (l : ℤ) → variable_of (literal_image m l) ≡ renamed m (variable_of l)
image_variable m (pos n) = refl
image_variable m (negsuc n) = turned_variable (pos (renamed m (suc n)))

-- ---- with later variables

module _ (s : NamedState) (is : IsFormula s.formula) (reached : IsNamedReached s) (seat : ℕ) (w : Variables) (grows : Grows (top_of s) s.variables w) where
  abbrev joint_seen : ClauseMap
  joint_seen = seen_clauses (view_of (beneath s) seat)

  abbrev own_seen : ClauseMap
  own_seen = seen_clauses (named_view s seat)

  abbrev later : Renaming
  later = renaming_of w seat

  -- a clause that is held, in own variables and back
  back : (own joint : ℕ) (c : LiteralSet) → pair_at (view_of (beneath s) seat) own ≡ Some (record { joint = joint; clause = c }) → (image later (image (inverse (names_of s seat)) c) ≡ c) × (is_named (top_of s) later (image (inverse (names_of s seat)) c) ≡ true)
  back own joint c h =
      let p : Pair = record { joint = joint; clause = c } in
      let both = pair_back (top_of s) (names_of s seat) later ((rules_reached s reached).variables.one_to_one seat) (grows.part seat) (grows.rules.one_to_one seat) p (seats_hold_own s seat own p is reached h) in
      (ap (λ (q : Pair). q.clause) both.0, both.1)

  own_is : own_seen ≡ clauses_image (inverse (names_of s seat)) joint_seen
  own_is = seen-image (inverse (names_of s seat)) (view_of (beneath s) seat)

  get-own : (n : ℕ) → fin.get own_seen n ≡ option_map (image (inverse (names_of s seat))) (fin.get joint_seen n)
  get-own n = ap (λ (p : ClauseMap). fin.get p n) own_is ∙ get-clauses_image (inverse (names_of s seat)) joint_seen n

  pub own_named : AreNamed (top_of s) later own_seen
  own_named n c h = by (fin.get joint_seen n) refl (sym (get-own n) ∙ h)
    where
      by : (o : Option LiteralSet) → fin.get joint_seen n ≡ o → option_map (image (inverse (names_of s seat))) o ≡ Some c → is_named (top_of s) later c ≡ true
      by None at e = absurd (cc)
      by (Some d) at e =
          let same : image (inverse (names_of s seat)) d ≡ c = cc in
          let held = seen_has_holder (view_of (beneath s) seat) n d at in
          subst (λ (q : LiteralSet). is_named (top_of s) later q ≡ true) same (back held.0 n d held.1).1

  -- what is seen in joint variables is the image of what is seen in own ones
  joint_is : joint_seen ≡ clauses_image later own_seen
  joint_is = same_map _ _ (λ n. by n (fin.get joint_seen n) refl ∙ sym (ap (option_map (image later)) (get-own n)) ∙ sym (get-clauses_image later own_seen n))
    where
      by : (n : ℕ) (o : Option LiteralSet) → fin.get joint_seen n ≡ o → fin.get joint_seen n ≡ option_map (image later) (option_map (image (inverse (names_of s seat))) (fin.get joint_seen n))
      by n None at = at ∙ sym (ap (λ (o : Option LiteralSet). option_map (image later) (option_map (image (inverse (names_of s seat))) o)) at)
      by n (Some c) at =
          let held = seen_has_holder (view_of (beneath s) seat) n c at in
          at ∙ sym (ap Some (back held.0 n c held.1).0) ∙ sym (ap (λ (o : Option LiteralSet). option_map (image later) (option_map (image (inverse (names_of s seat))) o)) at)

  -- what is seen lives
  seen_lives : (n : ℕ) (c : LiteralSet) → fin.get joint_seen n ≡ Some c → fin.get (live (beneath s)) n ≡ Some c
  seen_lives n c at =
      let held = seen_has_holder (view_of (beneath s) seat) n c at in
      held_lives (beneath s) (states.IsGiven-sound (beneath s) (IsSound-reached (beneath s) (beneath_is_reached s reached))) seat held.0 n c held.1

  module _ (x : ℕ) (l : ℤ) (given : IsGiven w seat x (variable_of l)) where
    lives_seen : (n : ℕ) (o : Option LiteralSet) → fin.get joint_seen n ≡ o → (q : Option LiteralSet) → fin.get (live (beneath s)) n ≡ q → where_so (λ c. holds c l) q ≡ where_so (λ c. holds c l) o
    lives_seen n (Some c) at q lives = ap (where_so (λ c. holds c l)) (sym lives ∙ seen_lives n c at)
    lives_seen n None at None lives = refl
    lives_seen n None at (Some c) lives = by (holds c l) refl
      where
        by : (b : Bool) → holds c l ≡ b → cond b (Some c) None ≡ None
        by false has = refl
        by true has =
            let held = held_by s is reached w grows seat x n c l lives has given in
            absurd (false≢true (sym (ap is_some at) ∙ held_is_seen (view_of (beneath s) seat) held.0 (record { joint = n; clause = c }) held.1))

  module _ (pivot : ℤ) (y : ℕ) (given : IsGiven w seat (variable_of pivot) y) where
    abbrev joint_pivot : ℤ
    joint_pivot = literal_image later pivot

    given_turned : IsGiven w seat (variable_of pivot) (variable_of (neg_ℤ joint_pivot))
    given_turned = given ∙ ap Some (sym (turned_variable joint_pivot ∙ image_variable later pivot ∙ ap (λ o. unwrap_or o (variable_of pivot)) given))

    pivot_named : has_name (top_of s) later (variable_of pivot) ≡ true
    pivot_named = or_right (nat_le (variable_of pivot) (top_of s)) (fin.contains_key later (variable_of pivot)) (ap is_some given)

    -- the live candidates are among what is seen
    among_seen : candidates (live (beneath s)) joint_pivot ≡ candidates joint_seen joint_pivot
    among_seen = same_where (λ c. holds c (neg_ℤ joint_pivot)) (live (beneath s)) joint_seen
        (λ n. lives_seen (variable_of pivot) (neg_ℤ joint_pivot) given_turned n (fin.get joint_seen n) refl (fin.get (live (beneath s)) n) refl)

    pub candidates_seen : candidates (live (beneath s)) joint_pivot ≡ map (entry_image later) (candidates own_seen pivot)
    candidates_seen =
        among_seen ∙ ap (λ (p : ClauseMap). candidates p joint_pivot) joint_is
        ∙ (tests_commute (top_of s) later (grows.rules.one_to_one seat)).found own_seen pivot own_named pivot_named

    -- hints to what is seen are the same among all that lives
    same_hints : (ns : List ℕ) → AllByRecursion (λ n. fin.contains_key own_seen n ≡ true) ns → hints_in (live (beneath s)) ns ≡ hints_in joint_seen ns
    same_hints [] all = refl
    same_hints (n ∷ ns) all = (λ i. record { number = n; clause = by (fin.get joint_seen n) refl (sym (ap is_some (get-own n)) ∙ all.0) i } ∷ same_hints ns all.1 i)
      where
        by : (o : Option LiteralSet) → fin.get joint_seen n ≡ o → is_some (option_map (image (inverse (names_of s seat))) (fin.get joint_seen n)) ≡ true → fin.get (live (beneath s)) n ≡ fin.get joint_seen n
        by None at e = absurd (false≢true (sym (ap (λ (o : Option LiteralSet). is_some (option_map (image (inverse (names_of s seat))) o)) at) ∙ e))
        by (Some c) at e = seen_lives n c at ∙ sym at

    same_groups : (gs : List HintGroup) → AllByRecursion (λ (g : HintGroup). AllByRecursion (λ n. fin.contains_key own_seen n ≡ true) g.hints) gs → groups_in (live (beneath s)) gs ≡ groups_in joint_seen gs
    same_groups [] all = refl
    same_groups (g ∷ gs) all = (λ i. record { candidate = g.candidate; hints = same_hints g.hints all.0 i } ∷ same_groups gs all.1 i)

    pub rat_seen : (a : LiteralSet) (groups : List HintGroup) → is_named (top_of s) later a ≡ true → AllByRecursion (λ (g : HintGroup). AllByRecursion (λ n. fin.contains_key own_seen n ≡ true) g.hints) groups → rat (live (beneath s)) (image later a) joint_pivot groups ≡ rat own_seen a pivot groups
    rat_seen a groups named all =
        (λ i. rat_over (image later a) joint_pivot (same_groups groups all i) (among_seen i))
        ∙ ap (λ (p : ClauseMap). rat p (image later a) joint_pivot groups) joint_is
        ∙ (tests_commute (top_of s) later (grows.rules.one_to_one seat)).covered_in own_seen a pivot groups own_named named pivot_named

-- ---- the laws

-- only a seat of the book was given variables
is_seat : (ms : List Renaming) (seat x y : ℕ) → fin.get (slice_index_or ms seat fin.empty) x ≡ Some y → seat < length ms
is_seat [] seat x y e = let none = fin.get-empty {X = ℕ} nat_cmp x in absurd (cc)
is_seat (m ∷ ms) zero x y e = omega arith
is_seat (m ∷ ms) (suc seat) x y e = let less = is_seat ms seat x y e in omega arith

grows_with : (s : NamedState) (seat : ℕ) (c : LiteralSet) (pivot : ℤ) → IsNamedReached s → IsPrivatePivot s seat c pivot → Grows (top_of s) s.variables (given_in s seat c)
grows_with s seat c pivot reached private =
    (given_grows_within s (rules_reached s reached) seat c
    (subst (λ n. seat < n) (length-given (top_of s) s.variables seat c) (is_seat (given_in s seat c).of_seats seat (variable_of pivot) private.0 private.1))).0

pub private_candidates : PrivateCandidates
private_candidates s seat c pivot is reached private =
    candidates_seen s is reached seat (given_in s seat c) (grows_with s seat c pivot reached private) pivot private.0 private.1

pub given_candidates : GivenCandidates
given_candidates s seat y pivot is reached given =
    candidates_seen s is reached seat s.variables (same_grows s (rules_reached s reached)) pivot y given

pub private_rat : PrivateRat
private_rat s seat c a pivot groups is reached private named hints =
    rat_seen s is reached seat (given_in s seat c) (grows_with s seat c pivot reached private) pivot private.0 private.1 a groups named
    (by groups (recursion_from_All (λ (g : HintGroup). All (λ n. fin.contains_key (seen_clauses (named_view s seat)) n ≡ true) g.hints) groups hints))
  where
    by : (gs : List HintGroup) → AllByRecursion (λ (g : HintGroup). All (λ n. fin.contains_key (seen_clauses (named_view s seat)) n ≡ true) g.hints) gs → AllByRecursion (λ (g : HintGroup). AllByRecursion (λ n. fin.contains_key (seen_clauses (named_view s seat)) n ≡ true) g.hints) gs
    by [] all = tt
    by (g ∷ gs) all = (recursion_from_All (λ n. fin.contains_key (seen_clauses (named_view s seat)) n ≡ true) g.hints all.0, by gs all.1)

-- no clause that is seen has a variable that the seat has no name for
none_seen : (s : NamedState) (seat y : ℕ) (w : Variables) (pivot : ℤ) → IsFormula s.formula → IsNamedReached s → Grows (top_of s) s.variables w → IsGiven w seat (variable_of pivot) y → fin.get (names_of s seat) (variable_of pivot) ≡ None → candidates (seen_clauses (named_view s seat)) pivot ≡ []
none_seen s seat y w pivot is reached grows given new =
    none_where (λ c. holds c (neg_ℤ pivot)) (seen_clauses (named_view s seat)) (λ n. by n (fin.get (seen_clauses (named_view s seat)) n) refl)
  where
    past : (x v : ℕ) → v < x → nat_le x v ≡ true → ⊥
    past x v h e = grind (arith, nat_tests)

    unnamed : has_name (top_of s) (names_of s seat) (variable_of pivot) ≡ true → ⊥
    unnamed h = elim (or_cases (nat_le (variable_of pivot) (top_of s)) (fin.contains_key (names_of s seat) (variable_of pivot)) h) [
      | inl low ↦ past (variable_of pivot) (top_of s) ((grows.rules.one_to_one seat).above (variable_of pivot) y given).0 low
      | inr there ↦ false≢true (sym (ap is_some new) ∙ there)
    ]

    passes : (n : ℕ) (c : LiteralSet) → fin.get (seen_clauses (named_view s seat)) n ≡ Some c → (b : Bool) → holds c (neg_ℤ pivot) ≡ b → cond b (Some c) None ≡ None
    passes n c at false has = refl
    passes n c at true has =
        let named = own_named s is reached seat s.variables (same_grows s (rules_reached s reached)) n c at in
        absurd (unnamed (ap (has_name (top_of s) (names_of s seat)) (sym (turned_variable pivot)) ∙ all_known (top_of s) (names_of s seat) c named (neg_ℤ pivot) has))

    by : (n : ℕ) (o : Option LiteralSet) → fin.get (seen_clauses (named_view s seat)) n ≡ o → where_so (λ c. holds c (neg_ℤ pivot)) o ≡ None
    by n None at = refl
    by n (Some c) at = passes n c at (holds c (neg_ℤ pivot)) refl

pub new_pivots_have_none : NewPivotsHaveNone
new_pivots_have_none s seat c pivot is reached private new =
    let none = none_seen s seat private.0 (given_in s seat c) pivot is reached (grows_with s seat c pivot reached private) private.1 new in
    (private_candidates s seat c pivot is reached private ∙ ap (map (entry_image (names_with s seat c))) none, none)
