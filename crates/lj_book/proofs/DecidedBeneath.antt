-- What a seat decides alone in its own variables is what it decides in joint ones.
use Rattle.std.proofs.Common.{◌≡◌, ap, refl, sym, ◌∙◌, ℕ, Bool, cond, true, false}
use Rattle.std.specs.Prelude.{neg_ℤ, IfSome, List, [], ◌∷◌, map, Option, Some, None, option_map, is_some, Result, Ok, Err}
use Rattle.std.specs.List.{AllByRecursion}
use Rattle.std.proofs.lemmas.List.Elements.{All-from_recursion, recursion_from_All}
use Rattle.std.specs.FinMap as fin
use Rattle.lj_clause.specs.LiteralSet.{LiteralSet, negations}
use Rattle.lj_clause.specs.ClauseMap.{IsFormula}
use Rattle.lj_clause.specs.Lemma.{LemmaValue}
use Rattle.lj_clause.specs.Propagation.{Propagation, Closed, Open, Stuck, Hint, propagate_over}
use Rattle.lj_clause.specs.Renaming.{Renaming, has_name, image, lemma_image, inverse, is_named, IsOneToOne, propagation_image}
use Rattle.lj_clause.proofs.TruthLaws.{holds-negations}
use Rattle.lj_clause.proofs.Renaming.{all_known, named_by}
use Rattle.lj_text.specs.declared.line.Addition.{Addition}
use Rattle.lj_hint.specs.declared.pair.Pair.{Pair}
use Rattle.lj_hint.specs.Hints.{named_hints}
use Rattle.lj_hint.specs.Case.{CaseValue, propagation_of}
use Rattle.lj_hint.specs.Images.{pair_image, IsNamedCase, hints_image}
use Rattle.lj_hint.proofs.Images.{tests_commute}
use Rattle.lj_book.specs.declared.refusal.Refusal.{Refusal}
use Rattle.lj_book.specs.declared.refusal.Refusal.TheVariants.{NumberTaken}
use Rattle.lj_book.specs.Tables.{Table, table_of, is_here}
use Rattle.lj_book.specs.State.{given_out}
use Rattle.lj_book.specs.Calls.{case_with, repeated_after, pairs_of, group_pairs_of}
use Rattle.lj_book.specs.Solo.{Holdings, View, holdings_of, view_of, solo_case, solo_take}
use Rattle.lj_book.specs.Views.{stuck_refusal, decided_by, IsClosedAlone}
use Rattle.lj_book.specs.Variables.{renaming_of, is_own}
use Rattle.lj_book.specs.Named.{NamedState, top_of, names_of, beneath, given_in, IsNamedReached}
use Rattle.lj_book.specs.NamedViews.{take_image, named_view, pair_at, addition_beneath, DecidedBeneath, ClosedBeneath, IsOpenAlone, OpenBeneath}
use Rattle.lj_book.proofs.SoloTakes.{AllHeld, IsFit, take_fits}
use Rattle.lj_book.proofs.NamedLaws.{rules_reached, given_grows}
use Rattle.lj_book.proofs.NamedTakes.{takes_commute}
use Rattle.lj_book.proofs.OwnHoldings.{seats_hold_own, pairs_back, turned_variable}

-- ---- takes go by the numbers alone, whatever the lemma

abbrev pub with_lemma : LemmaValue → Result CaseValue Refusal → Result CaseValue Refusal
with_lemma l (Ok c) = Ok (record c { lemma = l })
with_lemma l (Err e) = Err e

case_for : (seat : ℕ) (a : Addition) (l : LemmaValue) (repeated : Option ℕ) (hints : Result (List Pair) Refusal) (groups : Result (List (Pair × List Pair)) Refusal) → case_with seat (record a { lemma = l }) repeated hints groups ≡ with_lemma l (case_with seat a repeated hints groups)
case_for seat a l repeated (Err e) groups = refl
case_for seat a l repeated (Ok hints) (Err e) = refl
case_for seat a l None (Ok hints) (Ok groups) = refl
case_for seat a l (Some own) (Ok hints) (Ok groups) = refl

take_for : (v : View) (seat : ℕ) (a : Addition) (l : LemmaValue) → solo_take v seat (record a { lemma = l }) ≡ with_lemma l (solo_take v seat a)
take_for None seat a l = refl
take_for (Some h) seat a l = by (fin.contains_key h a.number)
  where
    by : (b : Bool) → cond b (Err NumberTaken) (solo_case h seat (record a { lemma = l })) ≡ with_lemma l (cond b (Err NumberTaken) (solo_case h seat a))
    by true = refl
    by false = case_for seat a l (repeated_after (λ own. option_map (λ (p : Pair). p.joint) (fin.get h own)) [] a.groups) (pairs_of (fin.get h) a.hints) (group_pairs_of (fin.get h) a.groups)

-- ---- propagations in own variables and in joint ones

same_stuck : (m : Renaming) (w : Propagation) → stuck_refusal (propagation_image m w) ≡ stuck_refusal w
same_stuck m (Closed used) = refl
same_stuck m (Open a) = refl
same_stuck m (Stuck place) = refl

closed_before : (m : Renaming) (w : Propagation) (used : List ℕ) → propagation_image m w ≡ Closed used → w ≡ Closed used
closed_before m (Closed ns) used e = e
closed_before m (Open a) used e = absurd (cc)
closed_before m (Stuck place) used e = absurd (cc)

-- the literals of an open propagation of a named case are named
open_named : (top : ℕ) (m : Renaming) → IsOneToOne top m → (c : CaseValue) (left : LiteralSet) → IsNamedCase top m c → propagation_of c ≡ Open left → is_named top m left ≡ true
open_named top m one c left named ends =
    (tests_commute top m one).open_named (negations c.lemma.clause) left (named_hints c.hints)
    (named_by top m (negations c.lemma.clause) (λ l h.
    ap (has_name top m) (sym (turned_variable l)) ∙ all_known top m c.lemma.clause named.lemma (neg_ℤ l) (sym (holds-negations c.lemma.clause l) ∙ h)))
    (All-from_recursion (λ (h : Hint). IfSome h.clause (λ c. is_named top m c ≡ true)) (named_hints c.hints) (hints c.hints (recursion_from_All (λ (p : Pair). is_named top m p.clause ≡ true) c.hints named.hints)))
    ends
  where
    hints : (ps : List Pair) → AllByRecursion (λ (p : Pair). is_named top m p.clause ≡ true) ps → AllByRecursion (λ (h : Hint). IfSome h.clause (λ c. is_named top m c ≡ true)) (named_hints ps)
    hints [] all = tt
    hints (p ∷ ps) all = (all.0, hints ps all.1)

module _ (s : NamedState) (seat : ℕ) (a : Addition) (is : IsFormula s.formula) (reached : IsNamedReached s) where
  abbrev pub own_names : Renaming
  own_names = inverse (names_of s seat)

  abbrev pub later : Renaming
  later = renaming_of (given_in s seat a.lemma.clause) seat

  abbrev pub joint_lemma : LemmaValue
  joint_lemma = lemma_image later a.lemma

  -- the case that is taken beneath
  abbrev pub beneath_case : CaseValue → CaseValue
  beneath_case c = record c { lemma = joint_lemma }

  held_own : (h : Holdings) → view_of (beneath s) seat ≡ Some h → (ps : List Pair) → AllHeld h ps → AllByRecursion (λ (p : Pair). is_own (top_of s) s.variables seat p.clause ≡ true) ps
  held_own h at [] all = tt
  held_own h at (p ∷ ps) all = (seats_hold_own s seat all.0.own p is reached (ap (λ (v : View). pair_at v all.0.own) at ∙ all.0.bound), held_own h at ps all.1)

  here : (h : Holdings) (o : Option Table) → table_of s.tables seat ≡ o → option_map (holdings_of (given_out (beneath s))) o ≡ Some h → is_here s.tables seat ≡ true
  here h None at e = absurd (cc)
  here h (Some t) at e = ap is_some at

  -- The case is named in own variables, and its propagation beneath is the image of the one in own variables.
  pub record IsPropagatedAlike (c : CaseValue) : Type 0 where
    pub one : IsOneToOne (top_of s) later
    pub named : IsNamedCase (top_of s) later (hints_image own_names c)
    pub propagated : propagation_of (beneath_case c) ≡ propagation_image later (propagation_of (hints_image own_names c))

  propagations_by : (c : CaseValue) → c.lemma ≡ a.lemma → (h : Holdings) → view_of (beneath s) seat ≡ Some h → AllHeld h c.hints → IsPropagatedAlike c
  propagations_by c same h at all =
      let rules = rules_reached s reached in
      let gives = given_grows s rules seat a.lemma.clause (here h (table_of s.tables seat) refl at) in
      let one : IsOneToOne (top_of s) later = gives.0.rules.one_to_one seat in
      let back = pairs_back (top_of s) (names_of s seat) later (rules.variables.one_to_one seat) (gives.0.part seat) one c.hints (held_own h at c.hints all) in
      let named : IsNamedCase (top_of s) later (hints_image own_names c) = record {
        lemma = ap (λ (l : LemmaValue). is_named (top_of s) later l.clause) same ∙ gives.1;
        hints = All-from_recursion (λ (p : Pair). is_named (top_of s) later p.clause ≡ true) (map (pair_image own_names) c.hints) back.1;
      } in
      record {
        one = one;
        named = named;
        propagated = (λ i. propagate_over (negations (image later (sym same i).clause)) (named_hints (sym back.0 i)))
            ∙ (tests_commute (top_of s) later one).case (hints_image own_names c) named;
      }

  pub propagations : (c : CaseValue) → solo_take (view_of (beneath s) seat) seat a ≡ Ok c → IsPropagatedAlike c
  propagations c at = let taken = take_fits seat (view_of (beneath s) seat) a c at in by (view_of (beneath s) seat) refl taken.lemma taken.fit
    where
      by : (v : View) → view_of (beneath s) seat ≡ v → c.lemma ≡ a.lemma → IsFit v c.own c.hints → IsPropagatedAlike c
      by None is_view same fit = absurd fit
      by (Some h) is_view same fit = propagations_by c same h is_view fit.1

  -- ---- the laws

  pub own_take : solo_take (named_view s seat) seat a ≡ take_image own_names (solo_take (view_of (beneath s) seat) seat a)
  own_take = takes_commute own_names (view_of (beneath s) seat) seat a

  pub joint_take : solo_take (view_of (beneath s) seat) seat (addition_beneath s seat a) ≡ with_lemma joint_lemma (solo_take (view_of (beneath s) seat) seat a)
  joint_take = take_for (view_of (beneath s) seat) seat a joint_lemma

  decided_alike : (r : Result CaseValue Refusal) → solo_take (view_of (beneath s) seat) seat a ≡ r → decided_by (take_image own_names r) ≡ decided_by (with_lemma joint_lemma r)
  decided_alike (Err e) at = refl
  decided_alike (Ok c) at = sym (ap stuck_refusal (propagations c at).propagated ∙ same_stuck later (propagation_of (hints_image own_names c)))

  own_closed : (read : ℕ) (r : Result CaseValue Refusal) → solo_take (view_of (beneath s) seat) seat a ≡ r → IsClosedAlone (named_view s seat) seat a read → IsClosedAlone (view_of (beneath s) seat) seat (addition_beneath s seat a) read
  own_closed read (Err e) at k = let none : Err e ≡ Ok k.case = sym (own_take ∙ ap (take_image own_names) at) ∙ k.taken in absurd (cc)
  own_closed read (Ok c) at k =
      let taken : Ok (hints_image own_names c) ≡ Ok k.case = sym (own_take ∙ ap (take_image own_names) at) ∙ k.taken in
      let same : hints_image own_names c ≡ k.case = cc in
      record {
        case = beneath_case c;
        used = k.used;
        taken = joint_take ∙ ap (with_lemma joint_lemma) at;
        closed = (propagations c at).propagated ∙ ap (propagation_image later) (ap propagation_of same ∙ k.closed);
        read_is = k.read_is;
      }

  joint_closed : (read : ℕ) (r : Result CaseValue Refusal) → solo_take (view_of (beneath s) seat) seat a ≡ r → IsClosedAlone (view_of (beneath s) seat) seat (addition_beneath s seat a) read → IsClosedAlone (named_view s seat) seat a read
  joint_closed read (Err e) at k = let none : Err e ≡ Ok k.case = sym (joint_take ∙ ap (with_lemma joint_lemma) at) ∙ k.taken in absurd (cc)
  joint_closed read (Ok c) at k =
      let taken : Ok (beneath_case c) ≡ Ok k.case = sym (joint_take ∙ ap (with_lemma joint_lemma) at) ∙ k.taken in
      let same : beneath_case c ≡ k.case = cc in
      record {
        case = hints_image own_names c;
        used = k.used;
        taken = own_take ∙ ap (take_image own_names) at;
        closed = closed_before later (propagation_of (hints_image own_names c)) k.used (sym (propagations c at).propagated ∙ ap propagation_of same ∙ k.closed);
        read_is = k.read_is;
      }

  own_open : (left : LiteralSet) (r : Result CaseValue Refusal) → solo_take (view_of (beneath s) seat) seat a ≡ r → IsOpenAlone (named_view s seat) seat a left → (is_named (top_of s) later left ≡ true) × IsOpenAlone (view_of (beneath s) seat) seat (addition_beneath s seat a) (image later left)
  own_open left (Err e) at k = let none : Err e ≡ Ok k.case = sym (own_take ∙ ap (take_image own_names) at) ∙ k.taken in absurd (cc)
  own_open left (Ok c) at k =
      let taken : Ok (hints_image own_names c) ≡ Ok k.case = sym (own_take ∙ ap (take_image own_names) at) ∙ k.taken in
      let same : hints_image own_names c ≡ k.case = cc in
      let alike = propagations c at in
      let ends : propagation_of (hints_image own_names c) ≡ Open left = ap propagation_of same ∙ k.ends in (
        open_named (top_of s) later alike.one (hints_image own_names c) left alike.named ends,
        record {
          case = beneath_case c;
          taken = joint_take ∙ ap (with_lemma joint_lemma) at;
          ends = alike.propagated ∙ ap (propagation_image later) ends;
        },
      )

pub open_so : OpenBeneath
open_so s seat a left is reached = own_open s seat a is reached left (solo_take (view_of (beneath s) seat) seat a) refl

pub decided_so : DecidedBeneath
decided_so s seat a is reached =
    ap decided_by (own_take s seat a is reached)
    ∙ decided_alike s seat a is reached (solo_take (view_of (beneath s) seat) seat a) refl
    ∙ sym (ap decided_by (joint_take s seat a is reached))

pub closed_so : ClosedBeneath
closed_so s seat a read is reached = (own_closed s seat a is reached read (solo_take (view_of (beneath s) seat) seat a) refl, joint_closed s seat a is reached read (solo_take (view_of (beneath s) seat) seat a) refl)
