-- Clauses without a variable above the formula's.
use Rattle.std.proofs.Common.{◌≡◌, ap, refl, sym, ◌∙◌, ⊎_elim, ℕ, ◌≤◌, cond, true, arith}
use Rattle.std.specs.Prelude.{ℤ, pos, negsuc, neg_ℤ, ◌==◌, nat_le, is_some, List, [], ◌∷◌, Option, Some, None, option_map, unwrap_or}
use Rattle.std.specs.List.{list_all}
use Rattle.std.proofs.lemmas.Bool.{false≢true, and_parts, and_from, or_cases, leb-true, eq-eqb}
use Rattle.std.specs.Ordering.{nat_cmp}
use Rattle.std.specs.FinMap as fin
use Rattle.lj_clause.specs.Literal.{variable_of}
use Rattle.lj_clause.specs.LiteralSet.{LiteralSet, literals, holds}
use Rattle.lj_clause.specs.Lemma.{LemmaValue, IsLemma}
use Rattle.lj_clause.specs.ClauseMap.{names_up_to}
use Rattle.lj_clause.specs.Renaming.{lemma_image, literal_image, renamed, is_named, IsOneToOne}
use Rattle.lj_clause.proofs.Renaming.{renaming_laws, all_known}
use Rattle.lj_book.specs.Variables.{Variables, IsVariables, renaming_of, given}
use Rattle.lj_book.specs.inner.JointForms.{is_unmoved, is_settled}
use Rattle.lj_book.specs.inner.VariableTables.{lemma_as_joint}
use Rattle.lj_book.proofs.VariableLaws.{none_is_some}
use Rattle.lj_book.proofs.GivenLaws.{named_gives_nothing}

module _ (top : ℕ) (v : Variables) (seat : ℕ) (is : IsVariables top v) where
  pub within_given : (c : LiteralSet) → names_up_to top c ≡ true → given top v seat c ≡ v
  within_given c h = named_gives_nothing top v seat c (renaming_laws.unmoved top (renaming_of v seat) c (is.one_to_one seat) h).0

  -- a literal of such a clause stays
  literal_stays : (c : LiteralSet) (l : ℤ) → names_up_to top c ≡ true → holds c l ≡ true → literal_image (renaming_of v seat) l ≡ l
  literal_stays c l h held = by l (by_get (fin.get (renaming_of v seat) (variable_of l)) refl)
    where
      low : variable_of l ≤ top
      low = ⊎_elim (λ g. leb-true (variable_of l) top g)
          (λ g. absurd (false≢true (sym (ap is_some (fin.get-empty nat_cmp (variable_of l))) ∙ g)))
          (or_cases (nat_le (variable_of l) top) (fin.contains_key fin.empty (variable_of l))
          (all_known top fin.empty c (renaming_laws.unmoved top fin.empty c nothing h).0 l held))
        where
          nothing : IsOneToOne top fin.empty
          nothing = record {
            above = λ x y e. none_is_some (fin.get fin.empty x) y (fin.get-empty nat_cmp x) e;
            apart = λ x z y e f. none_is_some (fin.get fin.empty x) y (fin.get-empty nat_cmp x) e;
          }

      by_get : (o : Option ℕ) → fin.get (renaming_of v seat) (variable_of l) ≡ o → renamed (renaming_of v seat) (variable_of l) ≡ variable_of l
      by_get None e = ap (λ o. unwrap_or o (variable_of l)) e
      by_get (Some y) e = let b = ((is.one_to_one seat).above (variable_of l) y e).0 in let k : variable_of l ≤ top = low in absurd (omega arith)

      by : (k : ℤ) → renamed (renaming_of v seat) (variable_of k) ≡ variable_of k → literal_image (renaming_of v seat) k ≡ k
      by (pos n) e = ap pos e
      by (negsuc n) e = ap (λ x. neg_ℤ (pos x)) e

  pub within_lemma : (lemma : LemmaValue) → IsLemma lemma → names_up_to top lemma.clause ≡ true → Some lemma ≡ lemma_as_joint top v seat lemma
  within_lemma lemma ok h =
      let unmoved = renaming_laws.unmoved top (renaming_of v seat) lemma.clause (is.one_to_one seat) h in
      sym (ap (λ b. cond b (Some (lemma_image (renaming_of v seat) lemma)) None) unmoved.0
      ∙ (λ i. Some (record { clause = unmoved.1 i; pivot = same lemma.pivot ok i })))
    where
      same : (o : Option ℤ) → IsLemma (record { clause = lemma.clause; pivot = o }) → option_map (literal_image (renaming_of v seat)) o ≡ o
      same None g = refl
      same (Some p) g = ap Some (literal_stays lemma.clause p h g)

  variable_stays : (x : ℕ) → x ≤ top → renamed (renaming_of v seat) x ≡ x
  variable_stays x low = by (fin.get (renaming_of v seat) x) refl
    where
      by : (o : Option ℕ) → fin.get (renaming_of v seat) x ≡ o → renamed (renaming_of v seat) x ≡ x
      by None e = ap (λ o. unwrap_or o x) e
      by (Some y) e = let b = ((is.one_to_one seat).above x y e).0 in absurd (omega arith)

  pub within_settled : (c : LiteralSet) → names_up_to top c ≡ true → is_settled top (renaming_of v seat) c ≡ true
  within_settled c h = and_from (is_named top (renaming_of v seat) c) (is_unmoved (renaming_of v seat) c)
      (renaming_laws.unmoved top (renaming_of v seat) c (is.one_to_one seat) h).0
      (each (literals c) h)
    where
      each : (ls : List ℤ) → list_all (λ l. nat_le (variable_of l) top) ls ≡ true → list_all (λ l. renamed (renaming_of v seat) (variable_of l) == variable_of l) ls ≡ true
      each [] all = refl
      each (l ∷ ls) all =
          let parts = and_parts (nat_le (variable_of l) top) (list_all (λ k. nat_le (variable_of k) top) ls) all in
          and_from (renamed (renaming_of v seat) (variable_of l) == variable_of l) (list_all (λ k. renamed (renaming_of v seat) (variable_of k) == variable_of k) ls)
          (eq-eqb (renamed (renaming_of v seat) (variable_of l)) (variable_of l) (variable_stays (variable_of l) (leb-true (variable_of l) top parts.0)))
          (each ls parts.1)
