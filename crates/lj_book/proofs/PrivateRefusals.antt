-- The test of a lemma with a private pivot refuses what its seat sees alone.
use Rattle.std.proofs.Common.{◌≡◌, ap, refl, sym, ◌∙◌, ℕ}
use Rattle.std.specs.Prelude.{ℤ, List, [], ◌∷◌, map, Option, Some, option_map, Result, Ok, Err}
use Rattle.lj_clause.specs.Lemma.{LemmaValue}
use Rattle.lj_clause.specs.ClauseMap.{IsFormula}
use Rattle.lj_clause.specs.Propagation.{Propagation, Closed, Open, Stuck}
use Rattle.lj_clause.specs.Rat.{HintGroup, rat}
use Rattle.lj_clause.specs.Renaming.{Renaming, literal_image, image, propagation_image}
use Rattle.lj_text.specs.declared.line.Addition.{Addition}
use Rattle.lj_hint.specs.declared.pair.Pair.{Pair}
use Rattle.lj_hint.specs.Hints.{numbers}
use Rattle.lj_hint.specs.Case.{CaseValue, propagation_of}
use Rattle.lj_hint.specs.Images.{pair_image, hinted_image, hints_image}
use Rattle.lj_book.specs.declared.refusal.Refusal.{Refusal}
use Rattle.lj_book.specs.State.{live}
use Rattle.lj_book.specs.Inside.{joint_addition, open_refusal, propagation_refusal, rat_refusal}
use Rattle.lj_book.specs.Solo.{view_of, solo_take}
use Rattle.lj_book.specs.Named.{NamedState, beneath, IsNamedReached}
use Rattle.lj_book.specs.NamedViews.{take_image, named_view, seen_clauses, addition_beneath, IsPrivatePivot, PrivateRefusals}
use Rattle.lj_book.proofs.SoloTakes.{take_fits}
use Rattle.lj_book.proofs.DecidedBeneath.{with_lemma, own_names, later, joint_lemma, beneath_case, propagations, own_take, joint_take, open_so}
use Rattle.lj_book.proofs.SeenClauses.{taken_hints_seen}
use Rattle.lj_book.proofs.PrivateCandidates.{private_rat}

pub same_numbers : (m : Renaming) (ps : List Pair) → numbers (map (pair_image m) ps) ≡ numbers ps
same_numbers m [] = refl
same_numbers m (p ∷ ps) = ap (λ ns. p.joint ∷ ns) (same_numbers m ps)

abbrev joint_groups : List (Pair × List Pair) → List HintGroup
joint_groups gs = map (λ (g : Pair × List Pair). record { candidate = g.0.joint; hints = numbers g.1 }) gs

pub same_groups : (m : Renaming) (gs : List (Pair × List Pair)) → joint_groups (map (hinted_image m) gs) ≡ joint_groups gs
same_groups m [] = refl
same_groups m (g ∷ gs) = λ i. record { candidate = g.0.joint; hints = same_numbers m g.1 i } ∷ same_groups m gs i

module _ (s : NamedState) (seat number : ℕ) (a : Addition) (pivot : ℤ) (is : IsFormula s.formula) (reached : IsNamedReached s) (has : a.lemma.pivot ≡ Some pivot) (private : IsPrivatePivot s seat a.lemma.clause pivot) where
  abbrev names : Renaming
  names = later s seat a is reached

  abbrev own_case : CaseValue → CaseValue
  own_case e = hints_image (own_names s seat a is reached) e

  abbrev joint_case : CaseValue → CaseValue
  joint_case e = beneath_case s seat a is reached e

  by_propagation : (e : CaseValue) → e.lemma ≡ a.lemma → solo_take (named_view s seat) seat a ≡ Ok (own_case e) → (w : Propagation) → propagation_of (own_case e) ≡ w
      → propagation_refusal (live (beneath s)) (joint_addition number (joint_case e)) (propagation_image names w) ≡ propagation_refusal (seen_clauses (named_view s seat)) (joint_addition number (own_case e)) w
  by_propagation e same taken (Closed used) ends = refl
  by_propagation e same taken (Stuck place) ends = refl
  by_propagation e same taken (Open left) ends =
      let named = (open_so s seat a left is reached (record { case = own_case e; taken = taken; ends = ends })).0 in
      ap (λ (o : Option ℤ). open_refusal (live (beneath s)) (joint_addition number (joint_case e)) (image names left) (option_map (literal_image names) o)) has
      ∙ ap rat_refusal (
      (λ i. rat (live (beneath s)) (image names left) (literal_image names pivot) (sym (same_groups (own_names s seat a is reached) e.groups) i))
      ∙ private_rat s seat a.lemma.clause left pivot (joint_groups (own_case e).groups) is reached private named (taken_hints_seen (named_view s seat) seat number a (own_case e) taken))
      ∙ sym (ap (λ (o : Option ℤ). open_refusal (seen_clauses (named_view s seat)) (joint_addition number (own_case e)) left o) (ap (λ (l : LemmaValue). l.pivot) same ∙ has))

  by_take : (r : Result CaseValue Refusal) → solo_take (view_of (beneath s) seat) seat a ≡ r → (c d : CaseValue) → solo_take (named_view s seat) seat a ≡ Ok c → solo_take (view_of (beneath s) seat) seat (addition_beneath s seat a) ≡ Ok d
      → propagation_refusal (live (beneath s)) (joint_addition number d) (propagation_of d) ≡ propagation_refusal (seen_clauses (named_view s seat)) (joint_addition number c) (propagation_of c)
  by_take (Err x) at c d own joint = let none : Err x ≡ Ok c = sym (own_take s seat a is reached ∙ ap (take_image (own_names s seat a is reached)) at) ∙ own in absurd (cc)
  by_take (Ok e) at c d own joint =
      let taken : solo_take (named_view s seat) seat a ≡ Ok (own_case e) = own_take s seat a is reached ∙ ap (take_image (own_names s seat a is reached)) at in
      let both : Ok (own_case e) ≡ Ok c = sym taken ∙ own in
      let own_is : own_case e ≡ c = cc in
      let two : Ok (joint_case e) ≡ Ok d = sym (joint_take s seat a is reached ∙ ap (with_lemma (joint_lemma s seat a is reached)) at) ∙ joint in
      let joint_is : joint_case e ≡ d = cc in
      (λ i. propagation_refusal (live (beneath s)) (joint_addition number (sym joint_is i)) (propagation_of (sym joint_is i)))
      ∙ ap (propagation_refusal (live (beneath s)) (joint_addition number (joint_case e))) (propagations s seat a is reached e at).propagated
      ∙ by_propagation e (take_fits seat (view_of (beneath s) seat) a e at).lemma taken (propagation_of (own_case e)) refl
      ∙ (λ i. propagation_refusal (seen_clauses (named_view s seat)) (joint_addition number (own_is i)) (propagation_of (own_is i)))

pub private_refusals : PrivateRefusals
private_refusals s seat number a pivot c d is reached has private own joint =
    by_take s seat number a pivot is reached has private (solo_take (view_of (beneath s) seat) seat a) refl c d own joint
