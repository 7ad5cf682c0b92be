-- What an entry leaves, in the book beneath and over it.
use Rattle.std.proofs.Common.{◌≡◌, ap, refl, sym, ◌∙◌, subst, ⊎_elim, ℕ, zero, suc, ◌<◌, ◌≤◌, true, arith}
use Rattle.std.specs.Prelude.{ℤ, pos, negsuc, neg_ℤ, nat_le, List, [], ◌∷◌, ◌++◌, map, Option, Some, None, is_some, option_map, unwrap_or}
use Rattle.std.specs.List.{AllByRecursion}
use Rattle.std.proofs.lemmas.Bool.{false≢true, or_cases, leb-true}
use Rattle.std.specs.FinMap as fin
use Rattle.lj_clause.specs.Literal.{variable_of}
use Rattle.lj_clause.specs.Lemma.{LemmaValue, IsLemma}
use Rattle.lj_clause.specs.Renaming.{Renaming, has_name, is_named, lemma_image, literal_image, renamed, inverse, IsOneToOne}
use Rattle.lj_clause.proofs.Renaming.{renaming_laws, all_known, gives_inverse}
use Rattle.lj_book.specs.declared.entry.Call.{Call}
use Rattle.lj_book.specs.declared.entry.Call.TheVariants as calls
use Rattle.lj_book.specs.declared.entry.Entry.{Entry}
use Rattle.lj_book.specs.State.{State}
use Rattle.lj_book.specs.Variables.{Variables, renaming_of, IsVariables}
use Rattle.lj_book.specs.Named.{NamedState, top_of, call_image, joint_entry, own_entry, beneath, named_over, variables_behind, entry_beneath, after_named, after_all_named, IsNamedLegal, AreNamedLegal, named_opening, IsNamedReached, OverBeneath, LegalEntriesEnter, TakenBeneathAreLegal}
use Rattle.lj_book.proofs.NamedLaws.{CallNamed, beneath_after, beneath_is_reached, rules_reached}
use Rattle.lj_book.proofs.ViewLaws.{legal_entry}

-- ---- there and back

turned : (m : Renaming) (k : ℕ) → 0 < k → literal_image m (neg_ℤ (pos k)) ≡ neg_ℤ (pos (renamed m k))
turned m zero some = absurd (omega arith)
turned m (suc k) some = refl

module _ (top : ℕ) (m : Renaming) (one : IsOneToOne top m) where
  back_one : IsOneToOne top (inverse m)
  back_one = renaming_laws.back top m one

  low : (x : ℕ) → has_name top m x ≡ true → fin.get m x ≡ None → x ≤ top
  low x h e = ⊎_elim (λ l. leb-true x top l) (λ there. absurd (false≢true (sym (ap is_some e) ∙ there))) (or_cases (nat_le x top) (fin.contains_key m x) h)

  stays_back : (x : ℕ) (o : Option ℕ) → fin.get (inverse m) x ≡ o → x ≤ top → renamed (inverse m) x ≡ x
  stays_back x None e le = ap (λ o. unwrap_or o x) e
  stays_back x (Some y) e le = let above = (back_one.above x y e).0 in absurd (omega arith)

  variable_back : (x : ℕ) (o : Option ℕ) → fin.get m x ≡ o → has_name top m x ≡ true → renamed (inverse m) (unwrap_or o x) ≡ x
  variable_back x None e h = stays_back x (fin.get (inverse m) x) refl (low x h e)
  variable_back x (Some y) e h = ap (λ o. unwrap_or o y) (gives_inverse one x y e)

  some_variable : (x : ℕ) (o : Option ℕ) → fin.get m x ≡ o → 0 < x → 0 < unwrap_or o x
  some_variable x None e lt = lt
  some_variable x (Some y) e lt = let above = (one.above x y e).1 in omega arith

  pub literal_back : (l : ℤ) → has_name top m (variable_of l) ≡ true → literal_image (inverse m) (literal_image m l) ≡ l
  literal_back (pos n) h = ap pos (variable_back n (fin.get m n) refl h)
  literal_back (negsuc n) h =
      turned (inverse m) (renamed m (suc n)) (some_variable (suc n) (fin.get m (suc n)) refl (omega arith))
      ∙ ap (λ x. neg_ℤ (pos x)) (variable_back (suc n) (fin.get m (suc n)) refl h)

  pub lemma_back : (lemma : LemmaValue) → IsLemma lemma → is_named top m lemma.clause ≡ true → lemma_image (inverse m) (lemma_image m lemma) ≡ lemma
  lemma_back lemma is named = λ i. record { clause = renaming_laws.given_back top m lemma.clause one named i; pivot = pivot lemma.pivot is i }
    where
      pivot : (o : Option ℤ) → IsLemma (record { clause = lemma.clause; pivot = o }) → option_map (literal_image (inverse m)) (option_map (literal_image m) o) ≡ o
      pivot None g = refl
      pivot (Some p) g = ap Some (literal_back p (all_known top m lemma.clause named p g))

module _ (top : ℕ) (v : Variables) (rules : IsVariables top v) where
  pub call_back : (seat : ℕ) (call : Call) → CallNamed top v seat call → call_image (inverse (renaming_of v seat)) (call_image (renaming_of v seat) call) ≡ call
  call_back seat (calls.Add own lemma) named = ap (calls.Add own) (lemma_back top (renaming_of v seat) (rules.one_to_one seat) lemma named.0 named.1)
  call_back seat (calls.Drop numbers) named = refl
  call_back seat (calls.Adopt own joint) named = refl
  call_back seat (calls.Import own clause) named = ap (calls.Import own) (renaming_laws.given_back top (renaming_of v seat) clause (rules.one_to_one seat) named)
  call_back seat calls.Leave named = refl

  entries_back : (es : List Entry) → AllByRecursion (λ (e : Entry). CallNamed top v e.seat e.call) es → map (own_entry v) (map (joint_entry v) es) ≡ es
  entries_back [] named = refl
  entries_back (e ∷ es) named = λ i. record { seat = e.seat; call = call_back e.seat e.call named.0 i; step = e.step } ∷ entries_back es named.1 i

pub over_beneath : OverBeneath
over_beneath s reached =
    let rules = rules_reached s reached in
    λ i. record {
      formula = s.formula;
      max_steps = s.max_steps;
      tables = s.tables;
      history = entries_back (top_of s) s.variables rules.variables s.history rules.named i;
      variables = s.variables;
    }

-- ---- one entry more

legal-push : (s : NamedState) (es : List Entry) (e : Entry) → AreNamedLegal s es → IsNamedLegal (after_all_named s es) e → AreNamedLegal s (es ++ e ∷ [])
legal-push s [] e legal last = (last, tt)
legal-push s (x ∷ es) e legal last = (legal.0, legal-push (after_named s x) es e legal.1 last)

after_all-push : (s : NamedState) (es : List Entry) (e : Entry) → after_all_named s (es ++ e ∷ []) ≡ after_named (after_all_named s es) e
after_all-push s [] e = refl
after_all-push s (x ∷ es) e = after_all-push (after_named s x) es e

pub named_reached_after : (s : NamedState) (e : Entry) → IsNamedReached s → IsNamedLegal s e → IsNamedReached (after_named s e)
named_reached_after s e r legal = record {
  seats = r.seats;
  some_seat = r.some_seat;
  legal = legal-push (named_opening s.formula r.seats s.max_steps) s.history e r.legal (subst (λ (t : NamedState). IsNamedLegal t e) (sym r.leads) legal);
  leads = after_all-push (named_opening s.formula r.seats s.max_steps) s.history e ∙ ap (λ (t : NamedState). after_named t e) r.leads;
}

pub legal_enters : LegalEntriesEnter
legal_enters s e reached legal =
    let later = named_reached_after s e reached legal in
    let joint = beneath_after s (rules_reached s reached) e legal in
    record {
      reached = later;
      joint = joint;
      over = ap (λ (t : State). named_over t (variables_behind s e.seat e.call)) (sym joint) ∙ over_beneath (after_named s e) later;
    }

pub taken_beneath_is_legal : TakenBeneathAreLegal
taken_beneath_is_legal s e reached names taken = record {
  names = names;
  legal = legal_entry (beneath s) (entry_beneath s e) (beneath_is_reached s reached) taken;
}
