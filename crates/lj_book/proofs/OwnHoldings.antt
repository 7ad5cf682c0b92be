-- What a seat of a book holds is its own.
use Rattle.std.proofs.Common.{◌≡◌, ap, refl, sym, ◌∙◌, subst, inl, inr, ⊎_elim, ℕ, zero, suc, Bool, cond, true, false, arith}
use Rattle.std.specs.Prelude.{◌⊎◌, pos, negsuc, neg_ℤ, ℤ, List, [], ◌∷◌, map, length, replicate, not, ◌==◌, Option, Some, None, option_map, option_and_then, unwrap_or, if◌then◌else◌}
use Rattle.std.specs.List.{AllByRecursion}
use Rattle.std.proofs.lemmas.Bool.{eqb-true}
use Rattle.std.specs.Ordering.{nat_cmp, eq_by_cmp}
use Rattle.std.specs.Cmp.{nat_cmp_total}
use Rattle.std.specs.FinMap as fin
use Rattle.lj_clause.specs.Literal.{variable_of}
use Rattle.lj_clause.specs.LiteralSet.{LiteralSet, no_literals}
use Rattle.lj_clause.specs.ClauseMap.{FormulaValue, formula_map, names_up_to, IsFormula}
use Rattle.lj_clause.specs.Renaming.{Renaming, image, inverse, is_named, IsOneToOne, IsPartOf}
use Rattle.lj_clause.proofs.Formulas.{clause_zero, clause_at}
use Rattle.lj_clause.proofs.Renaming.{renaming_laws, inverse_gives, gives_inverse}
use Rattle.lj_hint.specs.declared.pair.Pair.{Pair}
use Rattle.lj_hint.specs.Images.{pair_image}
use Rattle.lj_book.specs.declared.entry.Call.{Call}
use Rattle.lj_book.specs.declared.entry.Call.TheVariants as calls
use Rattle.lj_book.specs.declared.entry.Entry.{Entry}
use Rattle.lj_book.specs.Tables.{Table, table_of, up_to, is_among}
use Rattle.lj_book.specs.Imports.{import_number}
use Rattle.lj_book.specs.State.{State, live}
use Rattle.lj_book.specs.History.{IsReached}
use Rattle.lj_book.specs.Solo.{Holdings, View, without_holdings, holdings_of, view_of}
use Rattle.lj_book.specs.Views.{with_found_holding}
use Rattle.lj_book.specs.inner.Views.{view_after_call}
use Rattle.lj_book.specs.Variables.{Variables, renaming_of, no_variables, is_own}
use Rattle.lj_book.specs.Named.{NamedState, top_of, names_of, call_image, beneath, variables_behind, entry_beneath, after_named, after_all_named, IsOwnLive, NamesRightly, IsNamedLegal, AreNamedLegal, named_opening}
use Rattle.lj_book.specs.NamedViews.{holdings_image, view_image, pair_at, SeatsHoldTheirOwn, ViewsComeBack}
use Rattle.lj_book.proofs.FirstUseLaws.{name_at}
use Rattle.lj_book.proofs.HistoryLaws.{IsSound-reached, IsReached-opening, IsReached-after}
use Rattle.lj_book.proofs.SoloStates.{IsGiven-sound}
use Rattle.lj_book.proofs.SoloTables.{same_holdings}
use Rattle.lj_book.proofs.VariableLaws.{part_of_itself}
use Rattle.lj_book.proofs.ViewLaws.{view_follows, holds_the_formula}
use Rattle.lj_book.proofs.NamedLaws.{Grows, CallNamed, Rules, grown, beneath_after, rules_after, opening_rules, rules_reached}
use Rattle.lj_book.proofs.NamedTakes.{get-holdings_image}

-- each clause that a seat holds is its own
abbrev OwnHeld : NamedState → Type 0
OwnHeld s = (seat own : ℕ) (p : Pair) → pair_at (view_of (beneath s) seat) own ≡ Some p → is_own (top_of s) s.variables seat p.clause ≡ true

-- ---- what is own stays so

still_own : (top : ℕ) (v w : Variables) (seat : ℕ) (c : LiteralSet) → Grows top v w → is_own top v seat c ≡ true → is_own top w seat c ≡ true
still_own top v w seat c grows own =
    let one : IsOneToOne top (renaming_of w seat) = grows.rules.one_to_one seat in
    let part : IsPartOf (inverse (renaming_of v seat)) (inverse (renaming_of w seat)) =
    (λ y x h. gives_inverse one x y (grows.part seat x y (inverse_gives (renaming_of v seat) x y h))) in
    (renaming_laws.grown top (inverse (renaming_of v seat)) (inverse (renaming_of w seat)) c part (renaming_laws.back top (renaming_of w seat) one) own).1

-- ---- one entry

-- what holdings have is what they had, or what was bound
had : (h : Holdings) (k : ℕ) (x : Pair) (q : ℕ) (p : Pair) → fin.get (fin.insert h k x) q ≡ Some p → (x ≡ p) ⊎ (fin.get h q ≡ Some p)
had h k x q p e = by (eq_by_cmp nat_cmp q k) (sym (fin.get-insert nat_cmp_total h k x q) ∙ e)
  where
    by : (b : Bool) → cond b (Some x) (fin.get h q) ≡ Some p → (x ≡ p) ⊎ (fin.get h q ≡ Some p)
    by true e = inl (cc)
    by false e = inr e

was_there : (h : Holdings) (numbers : List ℕ) (q : ℕ) (p : Pair) → fin.get (without_holdings numbers h) q ≡ Some p → fin.get h q ≡ Some p
was_there h numbers q p e = by (not (is_among numbers q)) (sym (fin.get-retain_keys h (λ n. not (is_among numbers n)) q (λ x same. ap (λ n. not (is_among numbers n)) (sym (fin.nat_cmp-IsAntisymmetric q x same)))) ∙ e)
  where
    by : (b : Bool) → cond b (fin.get h q) None ≡ Some p → fin.get h q ≡ Some p
    by true e = e
    by false e = absurd (cc)

module _ (s : NamedState) (held : OwnHeld s) where
  module _ (seat : ℕ) (w : Variables) (grows : Grows (top_of s) s.variables w) (h : Holdings) (at : view_of (beneath s) seat ≡ Some h) (own : ℕ) (p : Pair) where
    kept : fin.get h own ≡ Some p → is_own (top_of s) w seat p.clause ≡ true
    kept got = still_own (top_of s) s.variables w seat p.clause grows (held seat own p (ap (λ (v : View). pair_at v own) at ∙ got))

    bound : (k : ℕ) (x : Pair) → is_own (top_of s) w seat x.clause ≡ true → fin.get (fin.insert h k x) own ≡ Some p → is_own (top_of s) w seat p.clause ≡ true
    bound k x mine e = ⊎_elim
        (λ same. subst (λ (q : Pair). is_own (top_of s) w seat q.clause ≡ true) same mine)
        (λ before. kept before)
        (had h k x own p e)

    found_bound : (k : ℕ) (c : LiteralSet) → is_own (top_of s) w seat c ≡ true → (o : Option ℕ) → fin.get (with_found_holding h k o c) own ≡ Some p → is_own (top_of s) w seat p.clause ≡ true
    found_bound k c mine None e = kept e
    found_bound k c mine (Some joint) e = bound k (record { joint = joint; clause = c }) mine e

    image_own : (c : LiteralSet) → is_named (top_of s) (renaming_of w seat) c ≡ true → is_own (top_of s) w seat (image (renaming_of w seat) c) ≡ true
    image_own c named = renaming_laws.named_back (top_of s) (renaming_of w seat) c (grows.rules.one_to_one seat) named

  live_own : (seat : ℕ) (o : Option LiteralSet) → IsOwnLive s seat o → is_own (top_of s) s.variables seat (unwrap_or o no_literals) ≡ true
  live_own seat None is = absurd is
  live_own seat (Some c) is = is

  own_after : (seat : ℕ) (call : Call) → NamesRightly s seat call → Grows (top_of s) s.variables (variables_behind s seat call) → CallNamed (top_of s) (variables_behind s seat call) seat call → (h : Holdings) → view_of (beneath s) seat ≡ Some h → (own : ℕ) (p : Pair) → pair_at (view_after_call (beneath s) (call_image (renaming_of (variables_behind s seat call) seat) call) h) own ≡ Some p → is_own (top_of s) (variables_behind s seat call) seat p.clause ≡ true
  own_after seat (calls.Add k lemma) names grows named h at own p e =
      let w : Variables = variables_behind s seat (calls.Add k lemma) in
      bound seat w grows h at own p k _ (image_own seat w grows h at own p lemma.clause named.1) e
  own_after seat (calls.Drop numbers) names grows named h at own p e = kept seat s.variables grows h at own p (was_there h numbers own p e)
  own_after seat (calls.Adopt k joint) names grows named h at own p e = bound seat s.variables grows h at own p k _ (live_own seat (fin.get (live (beneath s)) joint) names) e
  own_after seat (calls.Import k c) names grows named h at own p e =
      found_bound seat s.variables grows h at own p k (image (renaming_of s.variables seat) c) (image_own seat s.variables grows h at own p c named) (import_number (beneath s) (image (renaming_of s.variables seat) c)) e
  own_after seat calls.Leave names grows named h at own p e = absurd (cc)

  module _ (rules : Rules s) (reached : IsReached (beneath s)) (e : Entry) (legal : IsNamedLegal s e) where
    by_caller : (o : View) → view_of (beneath s) e.seat ≡ o → (own : ℕ) (p : Pair) → pair_at (option_and_then (view_after_call (beneath s) (entry_beneath s e).call) o) own ≡ Some p → is_own (top_of s) (variables_behind s e.seat e.call) e.seat p.clause ≡ true
    by_caller None at own p has = absurd (cc)
    by_caller (Some h) at own p has = own_after e.seat e.call legal.names (grown s rules e legal).0 (grown s rules e legal).1 h at own p has

    by_seat : (seat : ℕ) (b : Bool) → (e.seat == seat) ≡ b → (own : ℕ) (p : Pair) → pair_at (if b then option_and_then (view_after_call (beneath s) (entry_beneath s e).call) (view_of (beneath s) seat) else view_of (beneath s) seat) own ≡ Some p → is_own (top_of s) (variables_behind s e.seat e.call) seat p.clause ≡ true
    by_seat seat true is own p has =
        subst (λ (k : ℕ). pair_at (option_and_then (view_after_call (beneath s) (entry_beneath s e).call) (view_of (beneath s) k)) own ≡ Some p → is_own (top_of s) (variables_behind s e.seat e.call) k p.clause ≡ true)
        (eqb-true e.seat seat is) (by_caller (view_of (beneath s) e.seat) refl own p) has
    by_seat seat false is own p has = still_own (top_of s) s.variables (variables_behind s e.seat e.call) seat p.clause (grown s rules e legal).0 (held seat own p has)

    own_after_entry : OwnHeld (after_named s e)
    own_after_entry seat own p has = by_seat seat (e.seat == seat) refl own p
        (sym (ap (λ (v : View). pair_at v own) (ap (λ (t : State). view_of t seat) (beneath_after s rules e legal) ∙ view_follows (beneath s) (entry_beneath s e) seat (IsGiven-sound (beneath s) (IsSound-reached (beneath s) reached)) legal.legal (e.seat == seat) refl)) ∙ has)

    reached_after : IsReached (beneath (after_named s e))
    reached_after = subst IsReached (sym (beneath_after s rules e legal)) (IsReached-after (beneath s) (entry_beneath s e) reached legal.legal)

-- ---- a history

own_after_all : (s : NamedState) (es : List Entry) → OwnHeld s → Rules s → IsReached (beneath s) → AreNamedLegal s es → OwnHeld (after_all_named s es)
own_after_all s [] held rules reached legal = held
own_after_all s (e ∷ es) held rules reached legal =
    own_after_all (after_named s e) es (own_after_entry s held rules reached e legal.0) (rules_after s rules e legal.0) (reached_after s held rules reached e legal.0) legal.1

-- ---- the opening

in_formula : (f : FormulaValue) → IsFormula f → (q : ℕ) (c : LiteralSet) → fin.get (formula_map f) q ≡ Some c → names_up_to f.variables c ≡ true
in_formula f is zero c at = let none = clause_zero f zero (omega arith) in absurd (cc)
in_formula f is (suc i) c at = name_at f.variables f.clauses i c is.in_range (sym (clause_at f (suc i) i (omega arith)) ∙ at)

same_table : (seats : ℕ) (t : Option Table) (seat : ℕ) → (table_of (replicate seats t) seat ≡ None) ⊎ (table_of (replicate seats t) seat ≡ t)
same_table zero t seat = inl refl
same_table (suc seats) t zero = inr refl
same_table (suc seats) t (suc seat) = same_table seats t seat

module _ (f : FormulaValue) (is : IsFormula f) (seats max_steps : ℕ) where
  formula_own : (seat own : ℕ) (p : Pair) (o : Option LiteralSet) → fin.get (formula_map f) own ≡ o → option_map (λ (c : LiteralSet). record { joint = own; clause = c }) o ≡ Some p → is_own f.variables (no_variables f.variables seats) seat p.clause ≡ true
  formula_own seat own p None at e = absurd (cc)
  formula_own seat own p (Some c) at e =
      let m : Renaming = renaming_of (no_variables f.variables seats) seat in
      let same : ◌≡◌ {A = Pair} (record { joint = own; clause = c }) p = cc in
      subst (λ (q : Pair). is_own f.variables (no_variables f.variables seats) seat q.clause ≡ true) same
      (renaming_laws.unmoved f.variables (inverse m) c (renaming_laws.back f.variables m ((opening_rules f seats max_steps).variables.one_to_one seat)) (in_formula f is own c at)).0

  opening_own : OwnHeld (named_opening f seats max_steps)
  opening_own seat own p has = ⊎_elim
      (λ none. gone (sym (ap (λ (t : Option Table). pair_at (option_map (holdings_of (formula_map f)) t) own) none) ∙ has))
      (λ there. formula_own seat own p (fin.get (formula_map f) own) refl (sym (holds_the_formula f own) ∙ sym (ap (λ (t : Option Table). pair_at (option_map (holdings_of (formula_map f)) t) own) there) ∙ has))
      (same_table seats (Some (up_to (length f.clauses))) seat)
    where
      gone : None ≡ Some p → is_own f.variables (no_variables f.variables seats) seat p.clause ≡ true
      gone e = absurd (cc)

pub seats_hold_own : SeatsHoldTheirOwn
seats_hold_own s seat own p is reached has =
    let all : OwnHeld (after_all_named (named_opening s.formula reached.seats s.max_steps) s.history) =
    own_after_all (named_opening s.formula reached.seats s.max_steps) s.history (opening_own s.formula is reached.seats s.max_steps)
    (opening_rules s.formula reached.seats s.max_steps) (IsReached-opening s.formula reached.seats s.max_steps reached.some_seat) reached.legal in
    subst OwnHeld reached.leads all seat own p has

-- ---- there and back

module _ (top : ℕ) (m n : Renaming) (one : IsOneToOne top m) (part : IsPartOf m n) (grown : IsOneToOne top n) where
  pub pair_back : (p : Pair) → is_named top (inverse m) p.clause ≡ true → (pair_image n (pair_image (inverse m) p) ≡ p) × (is_named top n (image (inverse m) p.clause) ≡ true)
  pair_back p own =
      let back : IsOneToOne top (inverse m) = renaming_laws.back top m one in
      let again = renaming_laws.grown top (inverse (inverse m)) n (image (inverse m) p.clause)
      (λ x y h. part x y (inverse_gives m x y (inverse_gives (inverse m) y x h)))
      grown (renaming_laws.named_back top (inverse m) p.clause back own) in
      ((λ i. record { joint = p.joint; clause = (again.0 ∙ renaming_laws.given_back top (inverse m) p.clause back own) i }), again.1)

  pub pairs_back : (ps : List Pair) → AllByRecursion (λ (p : Pair). is_named top (inverse m) p.clause ≡ true) ps → (map (pair_image n) (map (pair_image (inverse m)) ps) ≡ ps) × AllByRecursion (λ (p : Pair). is_named top n p.clause ≡ true) (map (pair_image (inverse m)) ps)
  pairs_back [] own = (refl, tt)
  pairs_back (p ∷ ps) own =
      let first = pair_back p own.0 in
      let rest = pairs_back ps own.1 in
      ((λ i. first.0 i ∷ rest.0 i), (first.1, rest.1))

pub views_come_back : ViewsComeBack
views_come_back s seat is reached = by (view_of (beneath s) seat) refl
  where
    by_pair : (own : ℕ) (o : Option Pair) → pair_at (view_of (beneath s) seat) own ≡ o → option_map (pair_image (names_of s seat)) (option_map (pair_image (inverse (names_of s seat))) o) ≡ o
    by_pair own None at = refl
    by_pair own (Some p) at =
        let one = (rules_reached s reached).variables.one_to_one seat in
        ap Some (pair_back (top_of s) (names_of s seat) (names_of s seat) one (part_of_itself (names_of s seat)) one p (seats_hold_own s seat own p is reached at)).0

    by : (v : View) → view_of (beneath s) seat ≡ v → view_image (names_of s seat) (view_image (inverse (names_of s seat)) v) ≡ v
    by None at = refl
    by (Some h) at = ap Some (same_holdings _ _ (λ q.
        get-holdings_image (names_of s seat) (holdings_image (inverse (names_of s seat)) h) q
        ∙ ap (option_map (pair_image (names_of s seat))) (get-holdings_image (inverse (names_of s seat)) h q)
        ∙ by_pair q (fin.get h q) (ap (λ (v : View). pair_at v q) at)))

-- a literal's negation has its variable
pub turned_variable : (l : ℤ) → variable_of (neg_ℤ l) ≡ variable_of l
turned_variable (pos zero) = refl
turned_variable (pos (suc n)) = refl
turned_variable (negsuc n) = refl
