-- The book beneath one whose seats name variables as they like.
use Rattle.std.proofs.Common.{◌≡◌, ap, refl, sym, ◌∙◌, subst, ⊎_elim, ℕ, zero, suc, ◌<◌, ◌≤◌, true, arith}
use Rattle.std.specs.Prelude.{ℤ, pos, negsuc, neg_ℤ, nat_le, List, [], ◌∷◌, ◌++◌, map, length, Option, Some, None, is_some, option_map, unwrap_or}
use Rattle.std.specs.List.{AllByRecursion}
use Rattle.std.proofs.lemmas.List.{map-append, append_assoc, append-nil, length-replicate}
use Rattle.std.proofs.lemmas.Bool.{false≢true, cases_eq, or_cases, leb-true}
use Rattle.std.specs.FinMap as fin
use Rattle.lj_clause.specs.Literal.{variable_of}
use Rattle.lj_clause.specs.LiteralSet.{LiteralSet}
use Rattle.lj_clause.specs.Lemma.{LemmaValue, IsLemma}
use Rattle.lj_clause.specs.ClauseMap.{FormulaValue}
use Rattle.lj_clause.specs.Renaming.{Renaming, has_name, is_named, lemma_image, literal_image, renamed, IsOneToOne, IsPartOf}
use Rattle.lj_clause.proofs.Renaming.{renaming_laws, all_known}
use Rattle.lj_text.specs.declared.step.Step.{Step}
use Rattle.lj_book.specs.declared.entry.Call.{Call}
use Rattle.lj_book.specs.declared.entry.Call.TheVariants as calls
use Rattle.lj_book.specs.declared.entry.Entry.{Entry}
use Rattle.lj_book.specs.Tables.{Table, Tables, up_to, is_here, with_table, without_seat, without_keys}
use Rattle.lj_book.specs.State.{State, next}
use Rattle.lj_book.specs.Imports.{import_number}
use Rattle.lj_book.specs.History.{tables_after, with_found, after_entry, after_entries, IsLegalCall, AreLegal}
use Rattle.lj_book.specs.Variables.{Variables, IsVariables, renaming_of, given}
use Rattle.lj_book.specs.Named.{NamedState, top_of, call_image, joint_entry, beneath, variables_behind, entry_beneath, after_named, after_all_named, NamesRightly, IsNamedLegal, AreNamedLegal, named_opening, IsNamedReached, BeneathIsReached, NamedKeepRules}
use Rattle.lj_book.proofs.TableLaws.{here_in_range}
use Rattle.lj_book.proofs.VariableLaws.{none-IsVariables, part_of_itself}
use Rattle.lj_book.proofs.GivenLaws.{each_gives, length-given}

-- ---- what grows

-- The later variables keep the rules, and rename all that the earlier ones do.
pub record Grows (top : ℕ) (v w : Variables) : Type 0 where
  pub rules : IsVariables top w
  pub seats : length w.of_seats ≡ length v.of_seats
  pub part : (seat : ℕ) → IsPartOf (renaming_of v seat) (renaming_of w seat)

-- a call's clause has a joint form
abbrev pub CallNamed : ℕ → Variables → ℕ → Call → Type 0
CallNamed top v seat (calls.Add own lemma) = IsLemma lemma × (is_named top (renaming_of v seat) lemma.clause ≡ true)
CallNamed top v seat (calls.Drop numbers) = Unit {0}
CallNamed top v seat (calls.Adopt own joint) = Unit {0}
CallNamed top v seat (calls.Import own clause) = is_named top (renaming_of v seat) clause ≡ true
CallNamed top v seat calls.Leave = Unit {0}

module _ (top : ℕ) (m n : Renaming) (part : IsPartOf m n) (one : IsOneToOne top n) where
  alike : (x : ℕ) → has_name top m x ≡ true → renamed n x ≡ renamed m x
  alike x h = by (fin.get m x) refl
    where
      low : fin.get m x ≡ None → x ≤ top
      low e = ⊎_elim (λ l. leb-true x top l) (λ there. absurd (false≢true (sym (ap is_some e) ∙ there))) (or_cases (nat_le x top) (fin.contains_key m x) h)

      stays : (o : Option ℕ) → fin.get n x ≡ o → x ≤ top → renamed n x ≡ x
      stays None f l = ap (λ o. unwrap_or o x) f
      stays (Some y) f l = let b = (one.above x y f).0 in absurd (omega arith)

      by : (o : Option ℕ) → fin.get m x ≡ o → renamed n x ≡ renamed m x
      by None e = stays (fin.get n x) refl (low e) ∙ sym (ap (λ o. unwrap_or o x) e)
      by (Some y) e = ap (λ o. unwrap_or o x) (part x y e) ∙ sym (ap (λ o. unwrap_or o x) e)

  pub literal_alike : (l : ℤ) → has_name top m (variable_of l) ≡ true → literal_image n l ≡ literal_image m l
  literal_alike (pos k) h = ap pos (alike k h)
  literal_alike (negsuc k) h = ap (λ x. neg_ℤ (pos x)) (alike (suc k) h)

  lemma_alike : (lemma : LemmaValue) → IsLemma lemma → is_named top m lemma.clause ≡ true → lemma_image n lemma ≡ lemma_image m lemma
  lemma_alike lemma is named = λ i. record { clause = (renaming_laws.grown top m n lemma.clause part one named).0 i; pivot = pivot lemma.pivot is i }
    where
      pivot : (o : Option ℤ) → IsLemma (record { clause = lemma.clause; pivot = o }) → option_map (literal_image n) o ≡ option_map (literal_image m) o
      pivot None g = refl
      pivot (Some p) g = ap Some (literal_alike p (all_known top m lemma.clause named p g))

module _ (top : ℕ) (v w : Variables) (grows : Grows top v w) where
  call_alike : (seat : ℕ) (call : Call) → CallNamed top v seat call → call_image (renaming_of w seat) call ≡ call_image (renaming_of v seat) call
  call_alike seat (calls.Add own lemma) named = ap (calls.Add own) (lemma_alike top (renaming_of v seat) (renaming_of w seat) (grows.part seat) (grows.rules.one_to_one seat) lemma named.0 named.1)
  call_alike seat (calls.Drop numbers) named = refl
  call_alike seat (calls.Adopt own joint) named = refl
  call_alike seat (calls.Import own clause) named = ap (calls.Import own) (renaming_laws.grown top (renaming_of v seat) (renaming_of w seat) clause (grows.part seat) (grows.rules.one_to_one seat) named).0
  call_alike seat calls.Leave named = refl

  still_named : (seat : ℕ) (call : Call) → CallNamed top v seat call → CallNamed top w seat call
  still_named seat (calls.Add own lemma) named = (named.0, (renaming_laws.grown top (renaming_of v seat) (renaming_of w seat) lemma.clause (grows.part seat) (grows.rules.one_to_one seat) named.1).1)
  still_named seat (calls.Drop numbers) named = tt
  still_named seat (calls.Adopt own joint) named = tt
  still_named seat (calls.Import own clause) named = (renaming_laws.grown top (renaming_of v seat) (renaming_of w seat) clause (grows.part seat) (grows.rules.one_to_one seat) named).1
  still_named seat calls.Leave named = tt

  entries_alike : (es : List Entry) → AllByRecursion (λ (e : Entry). CallNamed top v e.seat e.call) es → map (joint_entry w) es ≡ map (joint_entry v) es
  entries_alike [] named = refl
  entries_alike (e ∷ es) named = λ i. record { seat = e.seat; call = call_alike e.seat e.call named.0 i; step = e.step } ∷ entries_alike es named.1 i

  all_still_named : (es : List Entry) (e : Entry) → AllByRecursion (λ (e : Entry). CallNamed top v e.seat e.call) es → CallNamed top w e.seat e.call → AllByRecursion (λ (e : Entry). CallNamed top w e.seat e.call) (es ++ e ∷ [])
  all_still_named [] e named new = (new, tt)
  all_still_named (f ∷ es) e named new = (still_named f.seat f.call named.0, all_still_named es e named.1 new)

-- ---- tables keep their number

length-with_table : (change : Table → Table) (ts : Tables) (seat : ℕ) → length (with_table change ts seat) ≡ length ts
length-with_table change [] seat = refl
length-with_table change (t ∷ ts) zero = refl
length-with_table change (t ∷ ts) (suc seat) = ap (λ n. suc n) (length-with_table change ts seat)

length-without_seat : (ts : Tables) (seat : ℕ) → length (without_seat ts seat) ≡ length ts
length-without_seat [] seat = refl
length-without_seat (t ∷ ts) zero = refl
length-without_seat (t ∷ ts) (suc seat) = ap (λ n. suc n) (length-without_seat ts seat)

length-with_found : (ts : Tables) (seat own : ℕ) (o : Option ℕ) → length (with_found ts seat own o) ≡ length ts
length-with_found ts seat own None = refl
length-with_found ts seat own (Some joint) = length-with_table (λ t. fin.insert t own joint) ts seat

length-tables_after : (s : State) (seat : ℕ) (call : Call) → length (tables_after s seat call) ≡ length s.tables
length-tables_after s seat (calls.Add own lemma) = length-with_table (λ t. fin.insert t own (next s)) s.tables seat
length-tables_after s seat (calls.Drop numbers) = length-with_table (without_keys numbers) s.tables seat
length-tables_after s seat (calls.Adopt own joint) = length-with_table (λ t. fin.insert t own joint) s.tables seat
length-tables_after s seat (calls.Import own clause) = length-with_found s.tables seat own (import_number s clause)
length-tables_after s seat calls.Leave = length-without_seat s.tables seat

-- ---- one entry

-- What holds in each state that is reached.
pub record Rules (s : NamedState) : Type 0 where
  pub variables : IsVariables (top_of s) s.variables
  pub seats : length s.variables.of_seats ≡ length s.tables
  pub named : AllByRecursion (λ (e : Entry). CallNamed (top_of s) s.variables e.seat e.call) s.history

pub same_grows : (s : NamedState) → Rules s → Grows (top_of s) s.variables s.variables
same_grows s rules = record { rules = rules.variables; seats = refl; part = λ seat. part_of_itself (renaming_of s.variables seat) }

module _ (s : NamedState) (rules : Rules s) where
  pub given_grows_within : (seat : ℕ) (c : LiteralSet) → seat < length s.variables.of_seats → Grows (top_of s) s.variables (given (top_of s) s.variables seat c) × (is_named (top_of s) (renaming_of (given (top_of s) s.variables seat c) seat) c ≡ true)
  given_grows_within seat c within =
      let gives = each_gives (top_of s) s.variables seat c rules.variables within in (
        record {
          rules = gives.kept;
          seats = length-given (top_of s) s.variables seat c;
          part = λ t. ⊎_elim
              (λ is. subst (λ u. IsPartOf (renaming_of s.variables u) (renaming_of (given (top_of s) s.variables seat c) u)) (sym is) gives.grown)
              (λ other. subst (λ (m : Renaming). IsPartOf (renaming_of s.variables t) m) (sym (gives.others t other)) (part_of_itself (renaming_of s.variables t)))
              (cases_eq t seat);
        },
        gives.named,
      )

  pub given_grows : (seat : ℕ) (c : LiteralSet) → is_here s.tables seat ≡ true → Grows (top_of s) s.variables (given (top_of s) s.variables seat c) × (is_named (top_of s) (renaming_of (given (top_of s) s.variables seat c) seat) c ≡ true)
  given_grows seat c here = given_grows_within seat c (subst (λ n. seat < n) (sym rules.seats) (here_in_range s.tables seat here))

  call_grows : (seat : ℕ) (call : Call) (step : Option Step) → NamesRightly s seat call → IsLegalCall (beneath s) seat (call_image (renaming_of (variables_behind s seat call) seat) call) step
      → Grows (top_of s) s.variables (variables_behind s seat call) × CallNamed (top_of s) (variables_behind s seat call) seat call
  call_grows seat (calls.Add own lemma) step names legal = let given = given_grows seat lemma.clause legal.here in (given.0, (names.0, given.1))
  call_grows seat (calls.Drop numbers) step names legal = (same_grows s rules, tt)
  call_grows seat (calls.Adopt own joint) step names legal = (same_grows s rules, tt)
  call_grows seat (calls.Import own clause) step names legal = (same_grows s rules, names)
  call_grows seat calls.Leave step names legal = (same_grows s rules, tt)

  module _ (e : Entry) (legal : IsNamedLegal s e) where
    pub grown : Grows (top_of s) s.variables (variables_behind s e.seat e.call) × CallNamed (top_of s) (variables_behind s e.seat e.call) e.seat e.call
    grown = call_grows e.seat e.call e.step legal.names legal.legal

    pub beneath_after : beneath (after_named s e) ≡ after_entry (beneath s) (entry_beneath s e)
    beneath_after = ap (λ (es : List Entry). record {
      formula = s.formula;
      max_steps = s.max_steps;
      tables = tables_after (beneath s) e.seat (entry_beneath s e).call;
      history = es;
    })
        (map-append (joint_entry (variables_behind s e.seat e.call)) s.history (e ∷ [])
        ∙ ap (λ (es : List Entry). es ++ entry_beneath s e ∷ []) (entries_alike (top_of s) s.variables (variables_behind s e.seat e.call) grown.0 s.history rules.named))

    pub rules_after : Rules (after_named s e)
    rules_after = record {
      variables = grown.0.rules;
      seats = grown.0.seats ∙ rules.seats ∙ sym (length-tables_after (beneath s) e.seat (entry_beneath s e).call);
      named = all_still_named (top_of s) s.variables (variables_behind s e.seat e.call) grown.0 s.history e rules.named grown.1;
    }

-- ---- a history

-- its entries in joint variables
abbrev joint_entries : NamedState → List Entry → List Entry
joint_entries s [] = []
joint_entries s (e ∷ es) = entry_beneath s e ∷ joint_entries (after_named s e) es

follow : (s : NamedState) (es : List Entry) → Rules s → AreNamedLegal s es → AreLegal (beneath s) (joint_entries s es) × (after_entries (beneath s) (joint_entries s es) ≡ beneath (after_all_named s es)) × Rules (after_all_named s es)
follow s [] rules legal = (tt, refl, rules)
follow s (e ∷ es) rules legal =
    let rest = follow (after_named s e) es (rules_after s rules e legal.0) legal.1 in
    let is = beneath_after s rules e legal.0 in (
      (legal.0.legal, subst (λ (t : State). AreLegal t (joint_entries (after_named s e) es)) is rest.0),
      ap (λ (t : State). after_entries t (joint_entries (after_named s e) es)) (sym is) ∙ rest.1,
      rest.2,
    )

history-after : (s : State) (es : List Entry) → (after_entries s es).history ≡ s.history ++ es
history-after s [] = sym (append-nil s.history)
history-after s (e ∷ es) = history-after (after_entry s e) es ∙ append_assoc s.history (e ∷ []) es

pub opening_rules : (f : FormulaValue) (seats max_steps : ℕ) → Rules (named_opening f seats max_steps)
opening_rules f seats max_steps = record {
  variables = none-IsVariables f.variables seats;
  seats = length-replicate seats fin.empty ∙ sym (length-replicate seats (Some (up_to (length f.clauses))));
  named = tt;
}

pub beneath_is_reached : BeneathIsReached
beneath_is_reached s reached =
    let start = named_opening s.formula reached.seats s.max_steps in
    let both = follow start s.history (opening_rules s.formula reached.seats s.max_steps) reached.legal in
    let leads : after_entries (beneath start) (joint_entries start s.history) ≡ beneath s = both.1 ∙ ap beneath reached.leads in
    let history : joint_entries start s.history ≡ (beneath s).history = sym (history-after (beneath start) (joint_entries start s.history)) ∙ ap (λ (t : State). t.history) leads in
    record {
      seats = reached.seats;
      some_seat = reached.some_seat;
      legal = subst (AreLegal (beneath start)) history both.0;
      leads = ap (after_entries (beneath start)) (sym history) ∙ leads;
    }

pub rules_reached : (s : NamedState) → IsNamedReached s → Rules s
rules_reached s reached =
    let all = follow (named_opening s.formula reached.seats s.max_steps) s.history (opening_rules s.formula reached.seats s.max_steps) reached.legal in
    subst Rules reached.leads all.2

pub named_keep_rules : NamedKeepRules
named_keep_rules s reached = (rules_reached s reached).variables
