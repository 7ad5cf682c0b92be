-- Clauses and lemmas in a seat's variables, compared with joint ones.
use Rattle.std.proofs.Common.{◌≡◌, ap, refl, sym, ◌∙◌, subst, ℕ, Bool, cond, true, false, arith}
use Rattle.std.specs.Prelude.{List, length, Option, Some, None, option_map, slice_index_or, ◌↔◌}
use Rattle.std.specs.Ordering.{nat_cmp}
use Rattle.std.proofs.lemmas.Bool.{false≢true, and_parts, and_from}
use Rattle.std.specs.FinMap as fin
use Rattle.lj_clause.specs.LiteralSet.{LiteralSet}
use Rattle.lj_clause.specs.Lemma.{LemmaValue}
use Rattle.lj_clause.specs.Renaming.{Renaming, is_named, literal_image, image, lemma_image, inverse, IsOneToOne}
use Rattle.lj_clause.proofs.Renaming.{renaming_laws, inverse_gives}
use Rattle.lj_hint.specs.declared.pair.Pair.{Pair}
use Rattle.lj_book.specs.declared.variable_table.Owner.{Owner}
use Rattle.lj_book.specs.Variables.{Variables, IsVariables, renaming_of, is_own}
use Rattle.lj_book.specs.inner.VariableTables.{AreOwners, as_own, lemma_as_own}
use Rattle.lj_book.specs.inner.ReceiptForms.{is_joint_form}
use Rattle.lj_book.specs.Lookup.{is_same}
use Rattle.lj_book.proofs.NumberMaps.{same_map}
use Rattle.lj_book.proofs.VariableTables.{within}
use Rattle.lj_book.proofs.VariableLaws.{part_of_itself}
use Rattle.lj_book.proofs.OwnHoldings.{pair_back}
use Rattle.lj_book.proofs.Parts.{same_clauses, same_itself}

-- ---- clauses

some-is : {A : Type 0} (x y : A) → Some x ≡ Some y → x ≡ y
some-is x y e = cc

module _ (top : ℕ) (v : Variables) (seat : ℕ) (rules : IsVariables top v) where
  abbrev m : Renaming
  m = renaming_of v seat

  one : IsOneToOne top m
  one = rules.one_to_one seat

  module _ (own joint : LiteralSet) where
    by_form : is_joint_form top v seat own joint ≡ true → as_own top v seat joint ≡ Some own
    by_form h =
        let parts = and_parts (is_named top m own) (is_same (image m own) joint) h in
        let is : image m own ≡ joint = same_clauses (image m own) joint parts.1 in
        subst (λ (c : LiteralSet). as_own top v seat c ≡ Some own) is
        (ap (λ b. cond b (Some (image (inverse m) (image m own))) None) (renaming_laws.named_back top m own one parts.0)
        ∙ ap Some (renaming_laws.given_back top m own one parts.0))

    is_form : is_own top v seat joint ≡ true → image (inverse m) joint ≡ own → is_joint_form top v seat own joint ≡ true
    is_form mine is =
        let back = pair_back top m m one (part_of_itself m) one (record { joint = 0; clause = joint }) mine in
        let again : image m own ≡ joint = ap (image m) (sym is) ∙ ap (λ (p : Pair). p.clause) back.0 in
        and_from (is_named top m own) (is_same (image m own) joint) (ap (is_named top m) (sym is) ∙ back.1)
        (ap (is_same (image m own)) (sym again) ∙ same_itself (image m own))

    -- whether a clause is the joint one in the seat's variables
    pub forms : (is_joint_form top v seat own joint ≡ true → as_own top v seat joint ≡ Some own) × (as_own top v seat joint ≡ Some own → is_joint_form top v seat own joint ≡ true)
    forms = (by_form, λ e. by (is_own top v seat joint) refl e)
      where
        by : (b : Bool) → is_own top v seat joint ≡ b → cond b (Some (image (inverse m) joint)) None ≡ Some own → is_joint_form top v seat own joint ≡ true
        by true mine e = is_form mine (some-is _ _ e)
        by false mine e = absurd (let no : ⊥ = cc in no)

  -- and a lemma, whose pivot is the joint one's too
  pub lemma_forms : (own joint : LemmaValue) → as_own top v seat joint.clause ≡ Some own.clause → option_map (literal_image (inverse m)) joint.pivot ≡ own.pivot → lemma_as_own top v seat joint ≡ Some own
  lemma_forms own joint e p = by (is_own top v seat joint.clause) e
    where
      by : (b : Bool) → cond b (Some (image (inverse m) joint.clause)) None ≡ Some own.clause → cond b (Some (lemma_image (inverse m) joint)) None ≡ Some own
      by true f = let same = some-is _ _ f in λ i. Some (record { clause = same i; pivot = p i })
      by false f = absurd (let no : ⊥ = cc in no)

  pub lemma_forms_back : (own joint : LemmaValue) → lemma_as_own top v seat joint ≡ Some own → (as_own top v seat joint.clause ≡ Some own.clause) × (option_map (literal_image (inverse m)) joint.pivot ≡ own.pivot)
  lemma_forms_back own joint e = by (is_own top v seat joint.clause) e
    where
      by : (b : Bool) → cond b (Some (lemma_image (inverse m) joint)) None ≡ Some own → (cond b (Some (image (inverse m) joint.clause)) None ≡ Some own.clause) × (option_map (literal_image (inverse m)) joint.pivot ≡ own.pivot)
      by true f = let same = some-is _ _ f in (ap (λ (l : LemmaValue). Some l.clause) same, ap (λ (l : LemmaValue). l.pivot) same)
      by false f = absurd (let no : ⊥ = cc in no)

  -- what the code finds by the clause and the pivot
  pub lemma_is : (own joint : LemmaValue) (b : Bool) → is_joint_form top v seat own.clause joint.clause ≡ true → (b ≡ true) ↔ (option_map (literal_image (inverse m)) joint.pivot ≡ own.pivot) → (b ≡ true) ↔ (lemma_as_own top v seat joint ≡ Some own)
  lemma_is own joint b form pivots = (λ h. lemma_forms own joint (by_form own.clause joint.clause form) (pivots.0 h), λ h. pivots.1 (lemma_forms_back own joint h).1)

  pub lemma_isnt : (own joint : LemmaValue) → is_joint_form top v seat own.clause joint.clause ≡ false → (false ≡ true) ↔ (lemma_as_own top v seat joint ≡ Some own)
  lemma_isnt own joint form = (λ h. absurd (false≢true h), λ h. absurd (false≢true (sym form ∙ (forms own.clause joint.clause).1 (lemma_forms_back own joint h).0)))

-- ---- variables that none was given

-- where no joint variable has an owner, no seat has one
pub none_given : (top : ℕ) (ms : List Renaming) (owners : List Owner) → AreOwners top ms owners → length owners ≡ 0 → (seat : ℕ) → inverse (slice_index_or ms seat fin.empty) ≡ fin.empty
none_given top ms owners are none seat = same_map (inverse (slice_index_or ms seat fin.empty)) fin.empty (λ y. by y (fin.get (inverse (slice_index_or ms seat fin.empty)) y) refl ∙ sym (fin.get-empty nat_cmp y))
  where
    by : (y : ℕ) (o : Option ℕ) → fin.get (inverse (slice_index_or ms seat fin.empty)) y ≡ o → fin.get (inverse (slice_index_or ms seat fin.empty)) y ≡ None
    by y None e = e
    by y (Some x) e =
        let owned = are.given seat x y (inverse_gives (slice_index_or ms seat fin.empty) x y e) in
        let some = within owners owned.at _ owned.stands in
        absurd (omega arith)
