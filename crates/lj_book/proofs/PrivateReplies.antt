-- Additions with a private pivot are answered as their seat decides alone.
use Rattle.std.proofs.Common.{◌≡◌, ap, refl, sym, ◌∙◌, subst, inl, inr, ⊎_elim, ℕ, ◌<◌, Bool, true, false, arith}
use Rattle.std.specs.Prelude.{ℤ, List, [], ◌∷◌, ◌++◌, length, take, nat_le, nat_lt, Option, Some, None, is_some, slice_get, option_map, if◌then◌else◌, Result, Ok, Err}
use Rattle.std.proofs.lemmas.Bool.{false≢true, or_cases, leb-true}
use Rattle.std.specs.FinMap as fin
use Rattle.lj_clause.specs.Memory.{no_memory}
use Rattle.lj_clause.specs.Literal.{variable_of}
use Rattle.lj_clause.specs.LiteralSet.{LiteralSet, holds}
use Rattle.lj_clause.specs.Lemma.{LemmaValue, IsLemma}
use Rattle.lj_clause.specs.ClauseMap.{IsFormula}
use Rattle.lj_clause.specs.Propagation.{Open}
use Rattle.lj_clause.specs.Rat.{rat}
use Rattle.lj_clause.specs.Renaming.{Renaming, has_name, lemma_image}
use Rattle.lj_clause.proofs.Renaming.{all_known}
use Rattle.lj_text.specs.declared.line.Addition.{Addition}
use Rattle.lj_text.specs.Steps.{first_propagation}
use Rattle.lj_hint.specs.Case.{CaseValue, propagation_of}
use Rattle.lj_hint.specs.Images.{hints_image}
use Rattle.lj_book.specs.declared.entry.Added.{Added}
use Rattle.lj_book.specs.declared.refusal.Refusal.{Refusal}
use Rattle.lj_book.specs.declared.refusal.Refusal.TheVariants.{Full, NoVariableLeft, NoMemory}
use Rattle.lj_book.specs.declared.event.Event.{Event}
use Rattle.lj_book.specs.declared.event.Event.TheVariants as events
use Rattle.lj_book.specs.declared.event.Reply.{Reply}
use Rattle.lj_book.specs.declared.event.Reply.TheVariants as replies
use Rattle.lj_book.specs.Tables.{Table, table_of, is_here}
use Rattle.lj_book.specs.State.{State, addition_count, next, given_out, live}
use Rattle.lj_book.specs.Calls.{free_refusal, if_free, commit_told}
use Rattle.lj_book.specs.Inside.{joint_addition, rat_refusal, open_refusal, propagation_refusal, or_full}
use Rattle.lj_book.specs.Solo.{holdings_of, view_of, solo_take}
use Rattle.lj_book.specs.Named.{NamedState, top_of, beneath, has_variables_for, IsNamedReached}
use Rattle.lj_book.specs.NamedViews.{take_image, named_view, seen_clauses, names_with, addition_beneath, IsPrivatePivot}
use Rattle.lj_book.specs.NamedReplies.{if_variables_left, named_inside_after, named_inside}
use Rattle.lj_book.specs.NamedInside.{named_inside_entry}
use Rattle.lj_book.specs.Worlds.{IsTried}
use Rattle.lj_book.specs.NamedWorlds.{NamedWorld, named_nothing_pending, if_named_entered, IsNamedAnswered, IsNamedRun}
use Rattle.lj_book.specs.PrivateAdditions.{IsAcceptance, IsTestReply, IsPrivateReply, PrivateRepliesAreAlone, ArePrivateReplies}
use Rattle.lj_book.specs.inner.PrivateSteps.{IsPrivateStep}
use Rattle.lj_book.proofs.HistoryLaws.{IsSound-reached}
use Rattle.lj_book.proofs.SoloStates.{IsGiven, IsGiven-sound}
use Rattle.lj_book.proofs.SoloTakes.{take_alone, take_fits}
use Rattle.lj_book.proofs.SoloWorlds.{tried_by}
use Rattle.lj_book.proofs.ClosedLemmas.{propagated_here}
use Rattle.lj_book.proofs.NamedLaws.{rules_reached, given_grows, beneath_is_reached}
use Rattle.lj_book.proofs.DecidedBeneath.{with_lemma, own_names, beneath_case, joint_lemma, own_take, joint_take}
use Rattle.lj_book.proofs.PrivateRefusals.{private_refusals}

-- ---- the pivot

-- a seat that sees something is there
seat_here : (s : State) (seat : ℕ) (a : Addition) (c : CaseValue) → solo_take (view_of s seat) seat a ≡ Ok c → is_here s.tables seat ≡ true
seat_here s seat a c taken = go (table_of s.tables seat) refl
  where
    go : (o : Option Table) → table_of s.tables seat ≡ o → is_here s.tables seat ≡ true
    go None e =
        let none = sym (ap (λ (t : Option Table). solo_take (option_map (holdings_of (given_out s)) t) seat a) e) ∙ taken in
        absurd (let no : ⊥ = cc in no)
    go (Some t) e = ap is_some e

-- a variable above top that has a name was given
given_above : (top : ℕ) (m : Renaming) (x : ℕ) → top < x → has_name top m x ≡ true → (y : ℕ) × (fin.get m x ≡ Some y)
given_above top m x above h =
    ⊎_elim (λ low. let l = leb-true x top low in absurd (omega arith)) (λ there. go (fin.get m x) refl there) (or_cases (nat_le x top) (fin.contains_key m x) h)
  where
    go : (o : Option ℕ) → fin.get m x ≡ o → is_some o ≡ true → (y : ℕ) × (fin.get m x ≡ Some y)
    go None e t = absurd (false≢true t)
    go (Some y) e t = (y, e)

pivot_held : (lemma : LemmaValue) (pivot : ℤ) → IsLemma lemma → lemma.pivot ≡ Some pivot → holds lemma.clause pivot ≡ true
pivot_held lemma pivot proper is = subst (λ (o : Option ℤ). IsLemma (record { clause = lemma.clause; pivot = o })) is proper

-- ---- replies by a test

-- what an addition that its test leads to so replies
abbrev tested_so : NamedState → ℕ → LiteralSet → Option Refusal → Result Added Refusal
tested_so s seat c o = if_free (or_full (beneath s) o) (if_variables_left s seat c)

module _ (s : NamedState) (seat : ℕ) (c : LiteralSet) where
  when_added : (o : Option Refusal) (x : Added) → tested_so s seat c o ≡ Ok x → IsTestReply o (replies.Added x)
  when_added None x is = tt
  when_added (Some e) x is = absurd (let no : ⊥ = cc in no)

  accepted : (capacity left : Bool) (x : Added) (e : Refusal) → if_free (if capacity then None else Some Full) (if left then Ok x else Err NoVariableLeft) ≡ Err e → IsAcceptance (replies.Refused e)
  accepted false left x e is = let same : Full ≡ e = cc in subst (λ (y : Refusal). IsAcceptance (replies.Refused y)) same tt
  accepted true false x e is = let same : NoVariableLeft ≡ e = cc in subst (λ (y : Refusal). IsAcceptance (replies.Refused y)) same tt
  accepted true true x e is = absurd (let no : ⊥ = cc in no)

  when_refused : (o : Option Refusal) (e : Refusal) → tested_so s seat c o ≡ Err e → IsTestReply o (replies.Refused e)
  when_refused None e is = accepted (nat_lt (addition_count (beneath s).history) s.max_steps) (has_variables_for s seat c) (commit_told (beneath s)) e is
  when_refused (Some x) e is = let same : e ≡ x = cc in inl (ap replies.Refused same)

  when_short : (o : Option Refusal) → IsTestReply o (replies.Refused (NoMemory no_memory))
  when_short None = tt
  when_short (Some x) = inr refl

-- ---- the law

module _ (s : NamedState) (seat : ℕ) (a : Addition) (is : IsFormula s.formula) (reached : IsNamedReached s) where
  abbrev own : CaseValue → CaseValue
  own e = hints_image (own_names s seat a is reached) e

  abbrev joint : CaseValue → CaseValue
  joint e = beneath_case s seat a is reached e

  given : IsGiven (beneath s)
  given = IsGiven-sound (beneath s) (IsSound-reached (beneath s) (beneath_is_reached s reached))

  private_pivot : (e : CaseValue) (pivot : ℤ) → solo_take (view_of (beneath s) seat) seat a ≡ Ok e → IsLemma a.lemma → a.lemma.pivot ≡ Some pivot → top_of s < variable_of pivot → IsPrivatePivot s seat a.lemma.clause pivot
  private_pivot e pivot at proper has above =
      let gives = given_grows s (rules_reached s reached) seat a.lemma.clause (seat_here (beneath s) seat a e at) in
      given_above (top_of s) (names_with s seat a.lemma.clause) (variable_of pivot) above
      (all_known (top_of s) (names_with s seat a.lemma.clause) a.lemma.clause gives.1 pivot (pivot_held a.lemma pivot proper has))

  -- what the test of a case that was taken so refuses beneath
  test_beneath : (e : CaseValue) (left : LiteralSet) (pivot : ℤ) → solo_take (view_of (beneath s) seat) seat a ≡ Ok e → IsLemma a.lemma → propagation_of (own e) ≡ Open left → a.lemma.pivot ≡ Some pivot → top_of s < variable_of pivot
      → propagation_refusal (live (beneath s)) (joint_addition (next (beneath s)) (joint e)) (first_propagation (live (beneath s)) (joint_addition (next (beneath s)) (joint e)))
      ≡ rat_refusal (rat (seen_clauses (named_view s seat)) left pivot (joint_addition a.number (own e)).groups)
  test_beneath e left pivot at proper ends has above =
      let number = next (beneath s) in
      let taken : solo_take (named_view s seat) seat a ≡ Ok (own e) = own_take s seat a is reached ∙ ap (take_image (own_names s seat a is reached)) at in
      let sparse : solo_take (view_of (beneath s) seat) seat (addition_beneath s seat a) ≡ Ok (joint e) = joint_take s seat a is reached ∙ ap (with_lemma (joint_lemma s seat a is reached)) at in
      let lemma : e.lemma ≡ a.lemma = (take_fits seat (view_of (beneath s) seat) a e at).lemma in
      ap (propagation_refusal (live (beneath s)) (joint_addition number (joint e))) (propagated_here (beneath s) seat (addition_beneath s seat a) (joint e) given sparse)
      ∙ private_refusals s seat number a pivot (own e) (joint e) is reached has (private_pivot e pivot at proper has above) taken sparse
      ∙ ap (propagation_refusal (seen_clauses (named_view s seat)) (joint_addition number (own e))) ends
      ∙ ap (open_refusal (seen_clauses (named_view s seat)) (joint_addition number (own e)) left) (ap (λ (l : LemmaValue). l.pivot) lemma ∙ has)

  -- what the addition replies
  inside_so : (e : CaseValue) (left : LiteralSet) (pivot : ℤ) → solo_take (view_of (beneath s) seat) seat a ≡ Ok e → IsLemma a.lemma → propagation_of (own e) ≡ Open left → a.lemma.pivot ≡ Some pivot → top_of s < variable_of pivot
      → named_inside s seat a ≡ tested_so s seat a.lemma.clause (rat_refusal (rat (seen_clauses (named_view s seat)) left pivot (joint_addition a.number (own e)).groups))
  inside_so e left pivot at proper ends has above =
      let lemma : e.lemma ≡ a.lemma = (take_fits seat (view_of (beneath s) seat) a e at).lemma in
      let test : LemmaValue → Addition = λ (l : LemmaValue). joint_addition (next (beneath s)) (record e { lemma = lemma_image (names_with s seat l.clause) l }) in
      ap (named_inside_after s seat) (take_alone (beneath s) seat a given ∙ at)
      ∙ ap (λ (l : LemmaValue). tested_so s seat l.clause (propagation_refusal (live (beneath s)) (test l) (first_propagation (live (beneath s)) (test l)))) lemma
      ∙ ap (tested_so s seat a.lemma.clause) (test_beneath e left pivot at proper ends has above)

  private_so : (r : Result CaseValue Refusal) → solo_take (view_of (beneath s) seat) seat a ≡ r → IsLemma a.lemma → (w after : NamedWorld) (reply : Reply)
      → IsTried (free_refusal (beneath s) seat a.number) (named_inside s seat a) replies.Added (if_named_entered w (named_inside_entry s seat a)) reply after
      → IsPrivateReply (top_of s) (named_view s seat) seat a reply
  private_so (Err x) at proper w after reply tried = λ left pivot opens has above.
      let none : Err x ≡ Ok opens.case = sym (own_take s seat a is reached ∙ ap (take_image (own_names s seat a is reached)) at) ∙ opens.taken in
      absurd (let no : ⊥ = cc in no)
  private_so (Ok e) at proper w after reply tried = λ left pivot opens has above.
      let both : Ok (own e) ≡ Ok opens.case = sym (own_take s seat a is reached ∙ ap (take_image (own_names s seat a is reached)) at) ∙ opens.taken in
      let same : own e ≡ opens.case = cc in
      let o : CaseValue → Option Refusal = λ (d : CaseValue). rat_refusal (rat (seen_clauses (named_view s seat)) left pivot (joint_addition a.number d).groups) in
      let call : named_inside s seat a ≡ tested_so s seat a.lemma.clause (o opens.case) =
      inside_so e left pivot at proper (ap propagation_of same ∙ opens.ends) has above ∙ ap (λ (d : CaseValue). tested_so s seat a.lemma.clause (o d)) same in
      tried_by (free_refusal (beneath s) seat a.number) (named_inside s seat a) replies.Added (if_named_entered w (named_inside_entry s seat a)) reply after
      (λ r _. IsTestReply (o opens.case) r)
      (λ x h. when_added s seat a.lemma.clause (o opens.case) x (sym call ∙ h))
      (λ x h. when_refused s seat a.lemma.clause (o opens.case) x (sym call ∙ h))
      (when_short s seat a.lemma.clause (o opens.case))
      tried

pub private_replies : PrivateRepliesAreAlone
private_replies w after seat a reply is reached proper answered =
    private_so w.state seat a is reached (solo_take (view_of (beneath w.state) seat) seat a) refl proper w after reply answered

-- ---- lists of events

-- a run that keeps it
abbrev pub IsKeptRun : NamedWorld → List Event → List Reply → NamedWorld → Type 0
IsKeptRun w [] [] end = end ≡ w
IsKeptRun w [] (r ∷ rs) end = ⊥
IsKeptRun w (e ∷ es) [] end = ⊥
IsKeptRun w (e ∷ es) (r ∷ rs) end = (after : NamedWorld) × (IsNamedAnswered w e r after × (IsPrivateStep w.state e r × IsKeptRun after es rs end))

pub kept_run : (w : NamedWorld) (es : List Event) (rs : List Reply) (end : NamedWorld) → IsKeptRun w es rs end → IsNamedRun w es rs end
kept_run w [] [] end run = run
kept_run w [] (r ∷ rs) end run = absurd run
kept_run w (e ∷ es) [] end run = absurd run
kept_run w (e ∷ es) (r ∷ rs) end run = (run.0, (run.1.0, kept_run run.0 es rs end run.1.1.1))

-- one event more
pub kept-push : (w : NamedWorld) (es : List Event) (rs : List Reply) (v u : NamedWorld) (e : Event) (r : Reply) → IsKeptRun w es rs v → IsNamedAnswered v e r u → IsPrivateStep v.state e r → IsKeptRun w (es ++ e ∷ []) (rs ++ r ∷ []) u
kept-push w [] [] v u e r run answered step =
    (u, (subst (λ (x : NamedWorld). IsNamedAnswered x e r u) run answered, (subst (λ (x : NamedWorld). IsPrivateStep x.state e r) run step, refl)))
kept-push w [] (q ∷ rs) v u e r run answered step = absurd run
kept-push w (d ∷ es) [] v u e r run answered step = absurd run
kept-push w (d ∷ es) (q ∷ rs) v u e r run answered step = (run.0, (run.1.0, (run.1.1.0, kept-push run.0 es rs v u e r run.1.1.1 answered step)))

-- what an addition inside is answered somewhere in such a run
abbrev IsPrivateAt : NamedWorld → List Event → List Reply → ℕ → Addition → Type 0
IsPrivateAt w before rs seat a = (v : NamedWorld) × (IsNamedRun w before (take (length before) rs) v
    × ((reply : Reply) × ((slice_get rs (length before) ≡ Some reply) × IsPrivateReply (top_of v.state) (named_view v.state seat) seat a reply)))

private_at : (w : NamedWorld) (es : List Event) (rs : List Reply) (end : NamedWorld) (before after : List Event) (seat : ℕ) (a : Addition) → IsKeptRun w es rs end → es ≡ before ++ events.Inside seat a ∷ after → IsPrivateAt w before rs seat a
private_at w [] rs end [] after seat a run is = absurd (let no : ⊥ = cc in no)
private_at w [] rs end (d ∷ before) after seat a run is = absurd (let no : ⊥ = cc in no)
private_at w (e ∷ es) [] end before after seat a run is = absurd run
private_at w (e ∷ es) (r ∷ rs) end [] after seat a run is =
    let same : e ≡ events.Inside seat a = cc in
    (w, (refl, (r, (refl, subst (λ (d : Event). IsPrivateStep w.state d r) same run.1.1.0))))
private_at w (e ∷ es) (r ∷ rs) end (d ∷ before) after seat a run is =
    let same : e ≡ d = cc in
    let rest : es ≡ before ++ events.Inside seat a ∷ after = cc in
    let later = private_at run.0 es rs end before after seat a run.1.1.1 rest in
    (later.0, ((run.0, (subst (λ (x : Event). IsNamedAnswered w x r run.0) same run.1.0, later.1.0)), (later.1.1.0, (later.1.1.1.0, later.1.1.1.1))))

pub private_anywhere : (s : NamedState) (es : List Event) (rs : List Reply) (end : NamedWorld) → IsKeptRun (named_nothing_pending s) es rs end → ArePrivateReplies s es rs
private_anywhere s es rs end run before after seat a is = private_at (named_nothing_pending s) es rs end before after seat a run is
