-- What an entry leaves of what its seat sees in its own variables.
use Rattle.std.proofs.Common.{◌≡◌, ap, refl, sym, ◌∙◌, subst, ℕ, suc, Bool, cond, true, false}
use Rattle.std.specs.Prelude.{List, [], ◌∷◌, map, length, Option, Some, None, is_some, option_map, option_and_then, not}
use Rattle.std.proofs.lemmas.Bool.{eq-eqb}
use Rattle.std.specs.Ordering.{nat_cmp, eq_by_cmp}
use Rattle.std.specs.Cmp.{nat_cmp_total}
use Rattle.std.specs.FinMap as fin
use Rattle.std.specs.FinMap.{nat_cmp-IsAntisymmetric}
use Rattle.lj_clause.specs.LiteralSet.{LiteralSet}
use Rattle.lj_clause.specs.ClauseMap.{FormulaValue, IsFormula}
use Rattle.lj_clause.specs.Renaming.{Renaming, image, inverse, IsOneToOne, IsPartOf}
use Rattle.lj_clause.proofs.Renaming.{renaming_laws, inverse_gives, gives_inverse, get-clauses_image}
use Rattle.lj_hint.specs.declared.pair.Pair.{Pair}
use Rattle.lj_hint.specs.Images.{pair_image}
use Rattle.lj_book.specs.declared.refusal.Refusal.TheVariants.{NumberTaken}
use Rattle.lj_book.specs.declared.entry.Call.{Call}
use Rattle.lj_book.specs.declared.entry.Call.TheVariants as calls
use Rattle.lj_book.specs.declared.entry.Entry.{Entry}
use Rattle.lj_book.specs.Tables.{is_among}
use Rattle.lj_book.specs.State.{State, next, given_out, live}
use Rattle.lj_book.specs.Imports.{import_number}
use Rattle.lj_book.specs.Solo.{Holdings, View, solo_refusal, with_clause, without_holdings, view_of}
use Rattle.lj_book.specs.Views.{with_found_holding}
use Rattle.lj_book.specs.inner.Views.{view_after_call}
use Rattle.lj_book.specs.Variables.{Variables, IsVariables, renaming_of, is_own}
use Rattle.lj_book.specs.Named.{NamedState, top_of, names_of, call_image, beneath, variables_behind, entry_beneath, after_named, IsNamedLegal, IsNamedReached}
use Rattle.lj_book.specs.NamedViews.{holdings_image, view_image, named_view, pair_at}
use Rattle.lj_book.specs.NamedSolo.{own_clauses}
use Rattle.lj_book.specs.NamedAlone.{named_after_call}
use Rattle.lj_book.proofs.HistoryLaws.{IsSound-reached, among-keys}
use Rattle.lj_book.proofs.DropLaws.{Rises-keys, same_rising}
use Rattle.lj_book.proofs.SoloTables.{same_holdings}
use Rattle.lj_book.proofs.SoloStates.{IsGiven, IsGiven-sound, Extends, Extends-refl, Extends-trans}
use Rattle.lj_book.proofs.SoloMoves.{moves-legal}
use Rattle.lj_book.proofs.ViewLaws.{view_follows}
use Rattle.lj_book.proofs.NamedLaws.{Grows, Rules, CallNamed, grown, same_grows, beneath_after, beneath_is_reached, rules_reached}
use Rattle.lj_book.proofs.NamedTakes.{get-holdings_image}
use Rattle.lj_book.proofs.OwnHoldings.{seats_hold_own}

-- ---- holdings renamed

module _ (m : Renaming) where
  pub image-insert : (h : Holdings) (k : ℕ) (p : Pair) → holdings_image m (fin.insert h k p) ≡ fin.insert (holdings_image m h) k (pair_image m p)
  image-insert h k p = same_holdings _ _ (λ q.
      get-holdings_image m (fin.insert h k p) q
      ∙ ap (option_map (pair_image m)) (fin.get-insert nat_cmp_total h k p q)
      ∙ by (eq_by_cmp nat_cmp q k) (fin.get h q)
      ∙ ap (cond (eq_by_cmp nat_cmp q k) (Some (pair_image m p))) (sym (get-holdings_image m h q))
      ∙ sym (fin.get-insert nat_cmp_total (holdings_image m h) k (pair_image m p) q))
    where
      by : (b : Bool) (o : Option Pair) → option_map (pair_image m) (cond b (Some p) o) ≡ cond b (Some (pair_image m p)) (option_map (pair_image m) o)
      by true o = refl
      by false o = refl

  get-without : (numbers : List ℕ) (h : Holdings) (q : ℕ) → fin.get (without_holdings numbers h) q ≡ cond (not (is_among numbers q)) (fin.get h q) None
  get-without numbers h q = fin.get-retain_keys h (λ own. not (is_among numbers own)) q
      (λ x e. ap (λ n. not (is_among numbers n)) (sym (nat_cmp-IsAntisymmetric q x e)))

  pub image-without : (numbers : List ℕ) (h : Holdings) → holdings_image m (without_holdings numbers h) ≡ without_holdings numbers (holdings_image m h)
  image-without numbers h = same_holdings _ _ (λ q.
      get-holdings_image m (without_holdings numbers h) q
      ∙ ap (option_map (pair_image m)) (get-without numbers h q)
      ∙ by (not (is_among numbers q)) (fin.get h q)
      ∙ ap (λ o. cond (not (is_among numbers q)) o None) (sym (get-holdings_image m h q))
      ∙ sym (get-without numbers (holdings_image m h) q))
    where
      by : (b : Bool) (o : Option Pair) → option_map (pair_image m) (cond b o None) ≡ cond b (option_map (pair_image m) o) None
      by true o = refl
      by false o = refl

  still_some : (o : Option Pair) → is_some (option_map (pair_image m) o) ≡ is_some o
  still_some None = refl
  still_some (Some p) = refl

  pub image-contains : (h : Holdings) (own : ℕ) → fin.contains_key (holdings_image m h) own ≡ fin.contains_key h own
  image-contains h own = ap is_some (get-holdings_image m h own) ∙ still_some (fin.get h own)

  pub image-len : (h : Holdings) → fin.len (holdings_image m h) ≡ fin.len h
  image-len h =
      let same = same_rising (fin.keys (holdings_image m h)) (fin.keys h) (Rises-keys (holdings_image m h)) (Rises-keys h)
      (λ q. among-keys (holdings_image m h) q ∙ image-contains h q ∙ sym (among-keys h q)) in
      length_keys (holdings_image m h) ∙ ap length same ∙ sym (length_keys h)
    where
      mapped : {X Y : Type 0} (f : X → Y) (xs : List X) → length xs ≡ length (map f xs)
      mapped f [] = refl
      mapped f (x ∷ xs) = ap suc (mapped f xs)

      length_keys : (h : Holdings) → fin.len h ≡ length (fin.keys h)
      length_keys h = fin.len-entries h ∙ mapped (λ e. e.0) (fin.entries h)

  pub image-refusal : (v : View) (own : ℕ) → solo_refusal (view_image m v) own ≡ solo_refusal v own
  image-refusal None own = refl
  image-refusal (Some h) own = ap (λ b. cond b (Some NumberTaken) None) (image-contains h own)

-- ---- what stays

-- The later state has all that was given out in the earlier one, numbers and variables.
pub record Keeps (s t : NamedState) : Type 0 where
  pub formula : t.formula ≡ s.formula
  pub grows : Grows (top_of s) s.variables t.variables
  pub more : Extends (given_out (beneath s)) (given_out (beneath t))

pub keeps_itself : (s : NamedState) → IsNamedReached s → Keeps s s
keeps_itself s reached = record { formula = refl; grows = same_grows s (rules_reached s reached); more = Extends-refl (given_out (beneath s)) }

pub keeps_on : (s t u : NamedState) → Keeps s t → Keeps t u → Keeps s u
keeps_on s t u f g = record {
  formula = g.formula ∙ f.formula;
  grows = record {
    rules = subst (λ n. IsVariables n u.variables) (ap (λ (f : FormulaValue). f.variables) f.formula) g.grows.rules;
    seats = g.grows.seats ∙ f.grows.seats;
    part = λ seat x y h. g.grows.part seat x y (f.grows.part seat x y h);
  };
  more = Extends-trans (given_out (beneath s)) (given_out (beneath t)) (given_out (beneath u)) f.more g.more;
}

-- a clause of the seat's own is the same in its variables later
own_later : (top : ℕ) (v w : Variables) (seat : ℕ) (c : LiteralSet) → Grows top v w → is_own top v seat c ≡ true → image (inverse (renaming_of w seat)) c ≡ image (inverse (renaming_of v seat)) c
own_later top v w seat c grows own =
    let one : IsOneToOne top (renaming_of w seat) = grows.rules.one_to_one seat in
    let part : IsPartOf (inverse (renaming_of v seat)) (inverse (renaming_of w seat)) =
    (λ y x h. gives_inverse one x y (grows.part seat x y (inverse_gives (renaming_of v seat) x y h))) in
    (renaming_laws.grown top (inverse (renaming_of v seat)) (inverse (renaming_of w seat)) c part (renaming_laws.back top (renaming_of w seat) one) own).0

-- so its number stands for it later
pub stands_later : (s t : NamedState) (seat joint : ℕ) (c : LiteralSet) → Keeps s t → fin.get (given_out (beneath s)) joint ≡ Some c → is_own (top_of s) s.variables seat c ≡ true
    → fin.get (own_clauses t seat) joint ≡ Some (image (inverse (names_of s seat)) c)
stands_later s t seat joint c keeps at own =
    get-clauses_image (inverse (names_of t seat)) (given_out (beneath t)) joint
    ∙ ap (option_map (image (inverse (names_of t seat)))) (keeps.more.stays joint c at)
    ∙ ap Some (own_later (top_of s) s.variables t.variables seat c keeps.grows own)

-- ---- what its seat sees behind an entry

module _ (s : NamedState) (is : IsFormula s.formula) (reached : IsNamedReached s) where
  given : IsGiven (beneath s)
  given = IsGiven-sound (beneath s) (IsSound-reached (beneath s) (beneath_is_reached s reached))

  -- what the seat holds is the same by its variables later
  held_later : (w : Variables) (seat : ℕ) (h : Holdings) → Grows (top_of s) s.variables w → view_of (beneath s) seat ≡ Some h → holdings_image (inverse (renaming_of w seat)) h ≡ holdings_image (inverse (names_of s seat)) h
  held_later w seat h grows at = same_holdings _ _ (λ q.
      get-holdings_image (inverse (renaming_of w seat)) h q
      ∙ by q (fin.get h q) refl
      ∙ sym (get-holdings_image (inverse (names_of s seat)) h q))
    where
      by : (q : ℕ) (o : Option Pair) → fin.get h q ≡ o → option_map (pair_image (inverse (renaming_of w seat))) o ≡ option_map (pair_image (inverse (names_of s seat))) o
      by q None got = refl
      by q (Some p) got =
          let own = seats_hold_own s seat q p is reached (ap (λ (v : View). pair_at v q) at ∙ got) in
          λ i. Some (record { joint = p.joint; clause = own_later (top_of s) s.variables w seat p.clause grows own i })

  module _ (e : Entry) (legal : IsNamedLegal s e) where
    rules : Rules s
    rules = rules_reached s reached

    pub keeps_entry : Keeps s (after_named s e)
    keeps_entry = record {
      formula = refl;
      grows = (grown s rules e legal).0;
      more = subst (λ (t : State). Extends (given_out (beneath s)) (given_out t)) (sym (beneath_after s rules e legal))
          (moves-legal (beneath s) e.seat (entry_beneath s e).call e.step given legal.legal).more;
    }

  by_call : (seat : ℕ) (call : Call) (h : Holdings) → Grows (top_of s) s.variables (variables_behind s seat call) → CallNamed (top_of s) (variables_behind s seat call) seat call → view_of (beneath s) seat ≡ Some h
      → view_image (inverse (renaming_of (variables_behind s seat call) seat)) (view_after_call (beneath s) (call_image (renaming_of (variables_behind s seat call) seat) call) h)
      ≡ named_after_call s seat call (holdings_image (inverse (names_of s seat)) h)
  by_call seat (calls.Add own lemma) h grows named at =
      let w : Variables = variables_behind s seat (calls.Add own lemma) in
      let m : Renaming = renaming_of w seat in
      let back : image (inverse m) (image m lemma.clause) ≡ lemma.clause = renaming_laws.given_back (top_of s) m lemma.clause (grows.rules.one_to_one seat) named.1 in
      ap Some (image-insert (inverse m) h own (record { joint = next (beneath s); clause = image m lemma.clause }))
      ∙ (λ i. Some (fin.insert (held_later w seat h grows at i) own (record { joint = next (beneath s); clause = back i })))
  by_call seat (calls.Drop numbers) h grows named at = ap Some (image-without (inverse (names_of s seat)) numbers h)
  by_call seat (calls.Adopt own joint) h grows named at = ap Some (image-insert (inverse (names_of s seat)) h own (with_clause (live (beneath s)) joint))
  by_call seat (calls.Import own c) h grows named at = found (import_number (beneath s) (image (names_of s seat) c))
    where
      found : (o : Option ℕ) → view_image (inverse (names_of s seat)) (Some (with_found_holding h own o (image (names_of s seat) c))) ≡ Some (with_found_holding (holdings_image (inverse (names_of s seat)) h) own o c)
      found None = refl
      found (Some joint) =
          ap Some (image-insert (inverse (names_of s seat)) h own (record { joint = joint; clause = image (names_of s seat) c }))
          ∙ (λ i. Some (fin.insert (holdings_image (inverse (names_of s seat)) h) own (record { joint = joint; clause = renaming_laws.given_back (top_of s) (names_of s seat) c (grows.rules.one_to_one seat) named i })))
  by_call seat calls.Leave h grows named at = refl

  module _ (e : Entry) (legal : IsNamedLegal s e) where
    pub sees_behind : named_view (after_named s e) e.seat ≡ option_and_then (named_after_call s e.seat e.call) (named_view s e.seat)
    sees_behind =
        ap (λ (t : State). view_image (inverse (renaming_of (variables_behind s e.seat e.call) e.seat)) (view_of t e.seat)) (beneath_after s (rules_reached s reached) e legal)
        ∙ ap (view_image (inverse (renaming_of (variables_behind s e.seat e.call) e.seat))) (view_follows (beneath s) (entry_beneath s e) e.seat given legal.legal true (eq-eqb e.seat e.seat refl))
        ∙ by (view_of (beneath s) e.seat) refl
      where
        both : Grows (top_of s) s.variables (variables_behind s e.seat e.call) × CallNamed (top_of s) (variables_behind s e.seat e.call) e.seat e.call
        both = grown s (rules_reached s reached) e legal

        by : (v : View) → view_of (beneath s) e.seat ≡ v
            → view_image (inverse (renaming_of (variables_behind s e.seat e.call) e.seat)) (option_and_then (view_after_call (beneath s) (entry_beneath s e).call) v)
            ≡ option_and_then (named_after_call s e.seat e.call) (view_image (inverse (names_of s e.seat)) v)
        by None at = refl
        by (Some h) at = by_call e.seat e.call h both.0 both.1 at
