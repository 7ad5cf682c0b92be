-- The additions of a seat that names its variables, answered as its solo object decides.
use Rattle.std.proofs.Common.{◌≡◌, ap, refl, sym, ◌∙◌, inl, inr, subst, ℕ, ◌≤◌, Bool, true, false, arith}
use Rattle.std.specs.Prelude.{ℤ, List, [], ◌∷◌, ◌&&◌, length, nat_lt, Option, Some, None, option_map, option_and_then, is_some, if◌then◌else◌, IfSome, Result, Ok, Err}
use Rattle.std.specs.FinMap as fin
use Rattle.lj_clause.specs.LiteralSet.{LiteralSet}
use Rattle.lj_clause.specs.Memory.{no_memory}
use Rattle.lj_clause.specs.Lemma.{LemmaValue}
use Rattle.lj_clause.specs.ClauseMap.{ClauseMap, IsFormula}
use Rattle.lj_clause.specs.Propagation.{Propagation, Closed, Open, Stuck, Hint}
use Rattle.lj_clause.specs.Rat as rats
use Rattle.lj_clause.specs.Rat.{HintGroup, RatAnswer, rat}
use Rattle.lj_clause.specs.Renaming.{Renaming, literal_image, image, lemma_image, inverse, is_named, IsOneToOne, propagation_image}
use Rattle.lj_clause.proofs.Renaming.{renaming_laws}
use Rattle.lj_text.specs.declared.line.Addition.{Addition}
use Rattle.lj_text.specs.declared.step.Step.{Step}
use Rattle.lj_text.specs.declared.step.Step.TheVariants as steps
use Rattle.lj_text.specs.Steps.{first_propagation}
use Rattle.lj_hint.specs.declared.pair.Pair.{Pair}
use Rattle.lj_hint.specs.Images.{pair_image, hints_image}
use Rattle.lj_hint.specs.Case.{CaseValue, propagation_of}
use Rattle.lj_hint.specs.Receipt.{ReceiptValue}
use Rattle.lj_hint.specs.declared.tested.Tested.{Tested}
use Rattle.lj_hint.specs.declared.tested.Tested.TheVariants as tests
use Rattle.lj_book.specs.declared.refusal.Refusal.{Refusal}
use Rattle.lj_book.specs.declared.refusal.Refusal.TheVariants.{SeatGone, NumberTaken, UnknownNumber, GroupRepeated, HintNotUnit, EmptyOpen, MissingGroup, GroupStuck, GroupOpen, Full, NoVariableLeft, NoMemory}
use Rattle.lj_book.specs.declared.entry.Call.TheVariants as calls
use Rattle.lj_book.specs.declared.entry.Entry.{Entry}
use Rattle.lj_book.specs.declared.entry.Added.{Added}
use Rattle.lj_book.specs.declared.event.Event.TheVariants as events
use Rattle.lj_book.specs.declared.event.Reply.{Reply}
use Rattle.lj_book.specs.declared.event.Reply.TheVariants as replies
use Rattle.lj_book.specs.declared.event.Pending.{Pending}
use Rattle.lj_book.specs.declared.event.Pending.TheVariants as pendings
use Rattle.lj_book.specs.Tables.{is_here, is_bound}
use Rattle.lj_book.specs.Lookup.{is_clause}
use Rattle.lj_book.specs.State.{State, addition_count, next, given_out, live}
use Rattle.lj_book.specs.History.{after_entry, IsLegalCall}
use Rattle.lj_book.specs.Inside.{joint_addition, rat_refusal, open_refusal, propagation_refusal, or_full}
use Rattle.lj_book.specs.Calls.{IsRefusal, IsReply, with_pair, if_known, pairs_of, with_group_pair, group_pairs_of, repeated_after, case_with, is_live_as, stale_or, commit_told, free_refusal, if_free}
use Rattle.lj_book.specs.Worlds.{reply_by, IsTried, case_taken, reply_to_test, pending_after_test, IsTestOf}
use Rattle.lj_book.specs.Solo.{Holdings, View, Solo, solo_case, solo_refusal, solo_take, IsRefusedOrNoMemory, holdings_of, IsSoloAddition, IsSoloCommitOf, IsSoloCommit, IsSoloOpen, IfPivot, IsSoloPropagated, IsSoloInside, IsSoloAnswer, view_of}
use Rattle.lj_book.specs.Named.{NamedState, top_of, names_of, beneath, has_variables_for, after_named, IsNamedLegal, IsNamedReached}
use Rattle.lj_book.specs.NamedViews.{take_image, named_view, pair_at, names_with, addition_beneath}
use Rattle.lj_book.specs.NamedReplies.{if_variables_left, named_inside_after, named_inside, named_first_stale, named_commit_refusal, named_commit}
use Rattle.lj_book.specs.NamedEntries.{named_commit_entry}
use Rattle.lj_book.specs.NamedInside.{named_inside_entry}
use Rattle.lj_book.specs.NamedWorlds.{NamedWorld, named_pending_at, with_named_pending, if_named_entered, IsNamedCommitOf, IsNamedAnswered}
use Rattle.lj_book.specs.NamedSolo.{IsProper, own_clauses, counted_as}
use Rattle.lj_book.specs.NamedAlone.{named_after_call}
use Rattle.lj_book.proofs.HistoryLaws.{IsSound-reached}
use Rattle.lj_book.proofs.TableLaws.{here_in_range}
use Rattle.lj_book.proofs.BindingLaws.{can_bind}
use Rattle.lj_book.proofs.Parts.{same_itself}
use Rattle.lj_book.proofs.SoloStates.{IsGiven, IsGiven-sound}
use Rattle.lj_book.proofs.SoloMoves.{given_out-addition, get-inserted}
use Rattle.lj_book.proofs.SoloTakes.{take_alone, take_fits, AllHeld, IsHolding, IsFit}
use Rattle.lj_book.proofs.SoloWorlds.{tried_by, pending_past}
use Rattle.lj_book.proofs.SoloSteps.{view_is, IsReadyOf, held_named}
use Rattle.lj_book.proofs.ClosedLemmas.{propagated_here}
use Rattle.lj_book.proofs.VariableLaws.{part_of_itself}
use Rattle.lj_book.proofs.NamedLaws.{rules_reached, grown, beneath_after, beneath_is_reached}
use Rattle.lj_book.proofs.NamedTakes.{get-holdings_image, named_takes_alone}
use Rattle.lj_book.proofs.OwnHoldings.{seats_hold_own, pair_back}
use Rattle.lj_book.proofs.DecidedBeneath.{with_lemma, own_names, beneath_case, joint_lemma, own_take, joint_take, propagations}
use Rattle.lj_book.proofs.NamedSoloViews.{Keeps, stands_later, sees_behind}
use Rattle.lj_book.proofs.NamedSoloEntries.{commit_legal, inside_legal_named}
use Rattle.lj_book.proofs.NamedSoloLeaves.{named_solo_of, IsSound, IsNamedSettled, leaves_pending}
use Rattle.lj_book.proofs.NamedSoloSteps.{IsSeen, seen_is, free_here, free_named, entered_solo, with_own_pending, if_free_named}

-- ---- refusals that count as they are

abbrev pub IsPlain : Refusal → Type 0
IsPlain x = counted_as (replies.Refused x) ≡ replies.Refused x

pairs_plain : (pair : ℕ → Option Pair) (owns : List ℕ) (x : Refusal) → pairs_of pair owns ≡ Err x → IsPlain x
pairs_plain pair [] x e = absurd (let no : ⊥ = cc in no)
pairs_plain pair (own ∷ owns) x e = go (pair own) (pairs_of pair owns) (pairs_plain pair owns) e
  where
    go : (o : Option Pair) (r : Result (List Pair) Refusal) → ((y : Refusal) → r ≡ Err y → IsPlain y) → if_known own o (λ p. with_pair p r) ≡ Err x → IsPlain x
    go None r rest e = let same : UnknownNumber own ≡ x = cc in subst IsPlain same refl
    go (Some p) (Ok ps) rest e = absurd (let no : ⊥ = cc in no)
    go (Some p) (Err y) rest e = rest x e

groups_plain : (pair : ℕ → Option Pair) (gs : List HintGroup) (x : Refusal) → group_pairs_of pair gs ≡ Err x → IsPlain x
groups_plain pair [] x e = absurd (let no : ⊥ = cc in no)
groups_plain pair (g ∷ gs) x e = go (pair g.candidate) (pairs_of pair g.hints) (pairs_plain pair g.hints) (group_pairs_of pair gs) (groups_plain pair gs) e
  where
    go : (o : Option Pair) (r : Result (List Pair) Refusal) → ((y : Refusal) → r ≡ Err y → IsPlain y) → (q : Result (List (Pair × List Pair)) Refusal) → ((y : Refusal) → q ≡ Err y → IsPlain y)
        → if_known g.candidate o (λ p. with_group_pair p r q) ≡ Err x → IsPlain x
    go None r hints q rest e = let same : UnknownNumber g.candidate ≡ x = cc in subst IsPlain same refl
    go (Some p) (Err y) hints q rest e = hints x (let same : y ≡ x = cc in ap Err same)
    go (Some p) (Ok ps) hints (Err y) rest e = rest x e
    go (Some p) (Ok ps) hints (Ok qs) rest e = absurd (let no : ⊥ = cc in no)

pub take_plain : (v : View) (seat : ℕ) (a : Addition) (x : Refusal) → solo_take v seat a ≡ Err x → IsPlain x
take_plain None seat a x e = let same : SeatGone ≡ x = cc in subst IsPlain same refl
take_plain (Some h) seat a x e = bound (fin.contains_key h a.number) e
  where
    by : (repeated : Option ℕ) (hints : Result (List Pair) Refusal) → ((y : Refusal) → hints ≡ Err y → IsPlain y) → (groups : Result (List (Pair × List Pair)) Refusal) → ((y : Refusal) → groups ≡ Err y → IsPlain y)
        → case_with seat a repeated hints groups ≡ Err x → IsPlain x
    by repeated (Err y) f groups g e = f x (let same : y ≡ x = cc in ap Err same)
    by repeated (Ok ps) f (Err y) g e = g x (let same : y ≡ x = cc in ap Err same)
    by (Some own) (Ok ps) f (Ok qs) g e = let same : GroupRepeated own ≡ x = cc in subst IsPlain same refl
    by None (Ok ps) f (Ok qs) g e = absurd (let no : ⊥ = cc in no)

    bound : (b : Bool) → (if b then Err NumberTaken else solo_case h seat a) ≡ Err x → IsPlain x
    bound true e = let same : NumberTaken ≡ x = cc in subst IsPlain same refl
    bound false e = by (repeated_after (λ own. option_map (λ p. p.joint) (fin.get h own)) [] a.groups)
        (pairs_of (fin.get h) a.hints) (pairs_plain (fin.get h) a.hints) (group_pairs_of (fin.get h) a.groups) (groups_plain (fin.get h) a.groups) e

plain_refusal : {A : Type 0} (e : Refusal) (r : Result A Refusal) → ((x : Refusal) → r ≡ Err x → IsPlain x) → IsRefusal e r → IsPlain e
plain_refusal (NoMemory m) r f h = refl
plain_refusal e r f h = f e h

-- ---- takes and tests

taken_here : (s : NamedState) (seat : ℕ) (a : Addition) (c : CaseValue) → solo_take (named_view s seat) seat a ≡ Ok c → is_here s.tables seat ≡ true
taken_here s seat a c e = by (named_view s seat) refl e
  where
    by : (v : View) → named_view s seat ≡ v → solo_take v seat a ≡ Ok c → is_here s.tables seat ≡ true
    by None at e = absurd (let no : ⊥ = cc in no)
    by (Some h) at e = ap is_some (seen_is s seat h at).at

take_past : (w : NamedWorld) (seat : ℕ) (a : Addition) (answer : Result CaseValue Refusal) → IsNamedSettled w → IsReply answer (solo_take (named_view w.state seat) seat a) → length w.pending ≤ seat → case_taken answer ≡ pendings.Nothing
take_past w seat a (Ok c) settled is long =
    let within = here_in_range w.state.tables seat (taken_here w.state seat a c is) in
    let ranges = settled.ranges in
    absurd (omega arith)
take_past w seat a (Err e) settled is long = refl

pub take_own : (w w' : NamedWorld) (seat : ℕ) (a : Addition) (reply : Reply) → IsNamedSettled w → IsNamedAnswered w (events.Take seat a) reply w'
    → IsTried (solo_refusal (named_view w.state seat) a.number) (solo_take (named_view w.state seat) seat a) (λ _. replies.Taken) (λ answer. record (named_solo_of w seat) { pending = case_taken answer }) (counted_as reply) (named_solo_of w' seat)
take_own w w' seat a reply settled called =
    let answers : IsReply called.answer (solo_take (named_view w.state seat) seat a) = subst (IsReply called.answer) (named_takes_alone w.state seat a settled.reached) called.answers in
    record {
      answer = called.answer;
      answers = answers;
      refused = subst (λ (x : Option Refusal). IfSome x (λ e. called.answer ≡ Err e)) (free_named w.state seat a.number) called.refused;
      tells = ap counted_as called.tells ∙ told called.answer answers;
      leaves = ap (λ (v : NamedWorld). named_solo_of v seat) called.leaves ∙ with_own_pending w seat (case_taken called.answer) (take_past w seat a called.answer settled answers);
    }
  where
    told : (answer : Result CaseValue Refusal) → IsReply answer (solo_take (named_view w.state seat) seat a) → counted_as (reply_by (λ _. replies.Taken) answer) ≡ reply_by (λ _. replies.Taken) answer
    told (Ok c) is = refl
    told (Err e) is = plain_refusal e (solo_take (named_view w.state seat) seat a) (take_plain (named_view w.state seat) seat a) is

test_told : (answer : Tested) → counted_as (reply_to_test answer) ≡ reply_to_test answer
test_told (tests.Closed receipt) = refl
test_told (tests.Open c) = refl
test_told (tests.Stuck place) = refl
test_told (tests.NoMemory c e) = refl

pub test_own : (w w' : NamedWorld) (seat : ℕ) (p : Pending) (reply : Reply) → named_pending_at w seat ≡ p → IsTestOf p w (with_named_pending w seat) reply w' → IsTestOf p (named_solo_of w seat) (λ q. record (named_solo_of w seat) { pending = q }) (counted_as reply) (named_solo_of w' seat)
test_own w w' seat pendings.Nothing reply is answered = (ap counted_as answered.0, ap (λ (v : NamedWorld). named_solo_of v seat) answered.1)
test_own w w' seat (pendings.Receipt r) reply is answered = (ap counted_as answered.0, ap (λ (v : NamedWorld). named_solo_of v seat) answered.1)
test_own w w' seat (pendings.Case c) reply is answered = record {
  answer = answered.answer;
  propagate = answered.propagate;
  no_memory = answered.no_memory;
  tells = ap counted_as answered.tells ∙ test_told answered.answer;
  leaves = ap (λ (v : NamedWorld). named_solo_of v seat) answered.leaves ∙ with_own_pending w seat (pending_after_test answered.answer) (λ long. let none = pending_past w.pending seat long in absurd (let no : ⊥ = cc in no));
}

-- ---- a lemma that enters

given_at : (s : State) (seat own : ℕ) (lemma : LemmaValue) (step : Option Step) → IsLegalCall s seat (calls.Add own lemma) step → fin.get (given_out (after_entry s (record { seat = seat; call = calls.Add own lemma; step = step }))) (next s) ≡ Some lemma.clause
given_at s seat own lemma None legal = absurd legal.addition
given_at s seat own lemma (Some (steps.Delete numbers)) legal = absurd legal.addition
given_at s seat own lemma (Some (steps.Add a)) legal =
    ap (λ p. fin.get p (next s)) (given_out-addition s seat own (calls.Add own lemma) a legal.addition.0)
    ∙ get-inserted (given_out s) (next s) a.lemma.clause
    ∙ ap (λ (l : LemmaValue). Some l.clause) legal.addition.1.0

-- the refusal of a full history
abbrev full : Bool → Option Refusal
full b = if b then None else Some Full

-- the entry of a lemma with this step
abbrev adding : ℕ → ℕ → LemmaValue → Option Step → Entry
adding seat own lemma step = record { seat = seat; call = calls.Add own lemma; step = step }

module _ (end : NamedState) (w : NamedWorld) (seat own : ℕ) (lemma : LemmaValue) (h : Holdings) (settled : IsNamedSettled w) (at : named_view w.state seat ≡ Some h) where
  abbrev pub Adds : Reply → Solo → Type 0
  Adds reply after = IsSoloAddition (own_clauses end seat) own lemma (named_solo_of w seat) h (counted_as reply) after

  added_so : (step : Option Step) → IsNamedLegal w.state (adding seat own lemma step) → Keeps (after_named w.state (adding seat own lemma step)) end
      → Adds (replies.Added (commit_told (beneath w.state))) (named_solo_of (record w { state = after_named w.state (adding seat own lemma step) }) seat)
  added_so step legal keeps =
      let s : NamedState = w.state in
      let e : Entry = adding seat own lemma step in
      let m : Renaming = names_with s seat lemma.clause in
      let both = grown s (rules_reached s settled.reached) e legal in
      let one : IsOneToOne (top_of s) m = both.0.rules.one_to_one seat in
      let named : is_named (top_of s) m lemma.clause ≡ true = both.1.1 in
      let there : fin.get (given_out (beneath (after_named s e))) (next (beneath s)) ≡ Some (image m lemma.clause) =
      ap (λ (t : State). fin.get (given_out t) (next (beneath s))) (beneath_after s (rules_reached s settled.reached) e legal) ∙ given_at (beneath s) seat own (lemma_image m lemma) step legal.legal in (
        stands_later (after_named s e) end seat (next (beneath s)) (image m lemma.clause) keeps there (renaming_laws.named_back (top_of s) m lemma.clause one named)
            ∙ ap Some (renaming_laws.given_back (top_of s) m lemma.clause one named),
        entered_solo w seat (after_named s e) (Some (fin.insert h own (record { joint = next (beneath s); clause = lemma.clause })))
            (sees_behind s settled.formula settled.reached e legal ∙ ap (option_and_then (named_after_call s seat e.call)) at),
      )

  refused_so : (b left : Bool) (y : Refusal) → if_free (full b) (if left then Ok (commit_told (beneath w.state)) else Err NoVariableLeft) ≡ Err y → Adds (replies.Refused y) (named_solo_of w seat)
  refused_so false left y e = let same : Full ≡ y = cc in subst (λ (z : Refusal). Adds (replies.Refused z) (named_solo_of w seat)) same refl
  refused_so true false y e = let same : NoVariableLeft ≡ y = cc in subst (λ (z : Refusal). Adds (replies.Refused z) (named_solo_of w seat)) same refl
  refused_so true true y e = absurd (let no : ⊥ = cc in no)

  told_so : (b left : Bool) (x : Added) → if_free (full b) (if left then Ok (commit_told (beneath w.state)) else Err NoVariableLeft) ≡ Ok x → commit_told (beneath w.state) ≡ x
  told_so true true x e = cc
  told_so true false x e = absurd (let no : ⊥ = cc in no)
  told_so false left x e = absurd (let no : ⊥ = cc in no)

  -- an addition that is refused only where the history is full or no variable is left
  pub addition_by : (w' : NamedWorld) (step : Option Step) (first : Option Refusal) (call : Result Added Refusal) (reply : Reply) (b : Bool) → ((x : Added) → call ≡ Ok x → IsNamedLegal w.state (adding seat own lemma step))
      → call ≡ if_free (full b) (if_variables_left w.state seat lemma.clause) → IsTried first call replies.Added (if_named_entered w (adding seat own lemma step)) reply w' → Keeps w'.state end → Adds reply (named_solo_of w' seat)
  addition_by w' step first call reply b legal decided called keeps =
      let left = has_variables_for w.state seat lemma.clause in
      tried_by first call replies.Added (if_named_entered w (adding seat own lemma step)) reply w'
      (λ q after. Keeps after.state end → Adds q (named_solo_of after seat))
      (λ x e more.
      subst (λ (z : Added). Adds (replies.Added z) (named_solo_of (record w { state = after_named w.state (adding seat own lemma step) }) seat)) (told_so b left x (sym decided ∙ e))
      (added_so step (legal x e) more))
      (λ y e more. refused_so b left y (sym decided ∙ e))
      (λ more. refl)
      called keeps

-- ---- commits

-- what the first of some hints names
abbrev first_clause : List Hint → Option LiteralSet
first_clause [] = None
first_clause (h ∷ hs) = h.clause

module _ (s : NamedState) (settled_formula : IsFormula s.formula) (reached : IsNamedReached s) (seat : ℕ) (h : Holdings) (at : named_view s seat ≡ Some h) where
  given : IsGiven (beneath s)
  given = IsGiven-sound (beneath s) (IsSound-reached (beneath s) (beneath_is_reached s reached))

  -- what the seat holds has a joint form, which lives
  held_lives : (p : Pair) → IsHolding h p → (is_named (top_of s) (names_of s seat) p.clause && is_live_as (live (beneath s)) (pair_image (names_of s seat) p)) ≡ true
  held_lives p holding = by (fin.get g holding.own) refl (sym (get-holdings_image (inverse m) g holding.own) ∙ ap (λ (k : Holdings). fin.get k holding.own) seen.is ∙ holding.bound)
    where
      seen : IsSeen s seat h
      seen = seen_is s seat h at

      m : Renaming
      m = names_of s seat

      g : Holdings
      g = holdings_of (given_out (beneath s)) seen.table

      by : (o : Option Pair) → fin.get g holding.own ≡ o → option_map (pair_image (inverse m)) o ≡ Some p → (is_named (top_of s) m p.clause && is_live_as (live (beneath s)) (pair_image m p)) ≡ true
      by None got is = absurd (let no : ⊥ = cc in no)
      by (Some q) got is =
          let same : pair_image (inverse m) q ≡ p = cc in
          let one = (rules_reached s reached).variables.one_to_one seat in
          let own = seats_hold_own s seat holding.own q settled_formula reached (ap (λ (v : View). pair_at v holding.own) (view_is (beneath s) seat (Some seen.table) seen.at) ∙ got) in
          let back = pair_back (top_of s) m m one (part_of_itself m) one q own in
          subst (λ (x : Pair). (is_named (top_of s) m x.clause && is_live_as (live (beneath s)) (pair_image m x)) ≡ true) same
          ((λ i. back.1 i && is_live_as (live (beneath s)) (back.0 i))
          ∙ ap (is_clause q.clause) (ap first_clause (held_named (beneath s) seat seen.table (q ∷ []) given seen.at (record { own = holding.own; bound = got }, tt))) ∙ same_itself q.clause)

  none_stale : (ps : List Pair) → AllHeld h ps → named_first_stale (top_of s) (names_of s seat) (live (beneath s)) ps ≡ None
  none_stale [] held = refl
  none_stale (p ∷ ps) held =
      ap (λ (b : Bool). if b then named_first_stale (top_of s) (names_of s seat) (live (beneath s)) ps else Some p.joint) (held_lives p held.0) ∙ none_stale ps held.1

  refusal_is : (r : ReceiptValue) → r.seat ≡ seat → IsFit (Some h) r.own r.listed → named_commit_refusal s r ≡ full (nat_lt (addition_count s.history) s.max_steps)
  refusal_is r owner fit =
      let can = can_bind (beneath s) seat r.own (free_here s seat r.own h at fit.0) in
      let here : is_here s.tables r.seat ≡ true = ap (is_here s.tables) owner ∙ can.here in
      let bound : is_bound s.tables r.seat r.own ≡ false = ap (λ (k : ℕ). is_bound s.tables k r.own) owner ∙ can.unbound in
      let fresh : named_first_stale (top_of s) (names_of s r.seat) (live (beneath s)) r.listed ≡ None =
      ap (λ (k : ℕ). named_first_stale (top_of s) (names_of s k) (live (beneath s)) r.listed) owner ∙ none_stale r.listed fit.1 in
      λ i. if here i then (if bound i then Some NumberTaken else stale_or (fresh i) (full (nat_lt (addition_count s.history) s.max_steps))) else Some SeatGone

pub commit_alone : (end : NamedState) (w w' : NamedWorld) (seat : ℕ) (p : Pending) (reply : Reply) → IsNamedSettled w → IsSound seat p → IsReadyOf (named_view w.state seat) p → Keeps w'.state end → IsNamedCommitOf p w seat reply w'
    → IsSoloCommit (own_clauses end seat) p (named_solo_of w seat) (counted_as reply) (named_solo_of w' seat)
commit_alone end w w' seat pendings.Nothing reply settled sound ready keeps answered = (ap counted_as answered.0, ap (λ (v : NamedWorld). named_solo_of v seat) answered.1)
commit_alone end w w' seat (pendings.Case c) reply settled sound ready keeps answered = (ap counted_as answered.0, ap (λ (v : NamedWorld). named_solo_of v seat) answered.1)
commit_alone end w w' seat (pendings.Receipt r) reply settled sound ready keeps answered = by (named_view w.state seat) refl ready
  where
    s : NamedState
    s = w.state

    v : NamedWorld
    v = with_named_pending w seat pendings.Nothing

    adds : (h : Holdings) → named_view s seat ≡ Some h → IsFit (Some h) r.own r.listed → IsSoloAddition (own_clauses end seat) r.own r.lemma (named_solo_of v seat) h (counted_as reply) (named_solo_of w' seat)
    adds h at fit =
        subst (λ (k : ℕ). IsSoloAddition (own_clauses end k) r.own r.lemma (named_solo_of v k) h (counted_as reply) (named_solo_of w' k)) sound.0
        (addition_by end v r.seat r.own r.lemma h (leaves_pending seat w pendings.Nothing settled tt).settled (ap (named_view s) sound.0 ∙ at)
        w' (named_commit_entry s r).step (named_commit_refusal s r) (named_commit s r) reply (nat_lt (addition_count s.history) s.max_steps)
        (λ x e. commit_legal s settled.reached r x sound.1.1 sound.1.0 e)
        (ap (λ (o : Option Refusal). if_free o (if_variables_left s r.seat r.lemma.clause)) (refusal_is s settled.formula settled.reached seat h at r sound.0 fit))
        answered keeps)

    by : (o : View) → named_view s seat ≡ o → IsFit o r.own r.listed → IsSoloCommitOf (own_clauses end seat) o (record (named_solo_of w seat) { pending = pendings.Nothing }) r (counted_as reply) (named_solo_of w' seat)
    by None at fit = absurd fit
    by (Some h) at fit =
        (fit.0, subst (λ (o : Solo). IsSoloAddition (own_clauses end seat) r.own r.lemma o h (counted_as reply) (named_solo_of w' seat)) (with_own_pending w seat pendings.Nothing (λ long. refl)) (adds h at fit))

-- ---- additions in one call

open_of : (clauses : ClauseMap) (own : ℕ) (lemma : LemmaValue) (o : Solo) (h : Holdings) (reply : Reply) (after : Solo) → IsSoloAddition clauses own lemma o h reply after → IsSoloOpen clauses own lemma o h reply after
open_of clauses own lemma o h (replies.Refused (MissingGroup joint)) after e = absurd e
open_of clauses own lemma o h (replies.Refused (GroupStuck joint place)) after e = absurd e
open_of clauses own lemma o h (replies.Refused (GroupOpen joint)) after e = absurd e
open_of clauses own lemma o h reply after e = e

-- an addition that is refused, whoever decides it
refused_by : (w w' : NamedWorld) (seat : ℕ) (entry : Entry) (first : Option Refusal) (call : Result Added Refusal) (reply : Reply) (x : Refusal) (P : Reply → Solo → Type 0)
    → P (counted_as (replies.Refused x)) (named_solo_of w seat) → P (replies.Refused (NoMemory no_memory)) (named_solo_of w seat)
    → call ≡ Err x → IsTried first call replies.Added (if_named_entered w entry) reply w' → P (counted_as reply) (named_solo_of w' seat)
refused_by w w' seat entry first call reply x P refused short is called =
    tried_by first call replies.Added (if_named_entered w entry) reply w' (λ q after. P (counted_as q) (named_solo_of after seat))
    (λ y e. absurd (let no : ⊥ = cc in no))
    (λ y e. let same : x ≡ y = cc in subst (λ (z : Refusal). P (counted_as (replies.Refused z)) (named_solo_of w seat)) same refused)
    short called

-- what is left to an addition whose propagation beneath ends so
abbrev inside_call : NamedState → ℕ → LiteralSet → Addition → Propagation → Result Added Refusal
inside_call s seat c b propagated = if_free (or_full (beneath s) (propagation_refusal (live (beneath s)) b propagated)) (if_variables_left s seat c)

module _ (end : NamedState) (w w' : NamedWorld) (seat : ℕ) (a : Addition) (reply : Reply) (settled : IsNamedSettled w) (proper : IsProper a.lemma) (keeps : Keeps w'.state end)
    (called : IsNamedAnswered w (events.Inside seat a) reply w') (h : Holdings) (at : named_view w.state seat ≡ Some h) where
  abbrev s : NamedState
  s = w.state

  abbrev first : Option Refusal
  first = free_refusal (beneath s) seat a.number

  abbrev names : Renaming
  names = names_with s seat a.lemma.clause

  abbrev Ends : Solo → Reply → Solo → Type 0
  Ends o r after = IsSoloOpen (own_clauses end seat) a.number a.lemma o h r after

  added_as : named_inside s seat a ≡ if_free (full (nat_lt (addition_count (beneath s).history) s.max_steps)) (if_variables_left s seat a.lemma.clause)
      → IsSoloAddition (own_clauses end seat) a.number a.lemma (named_solo_of w seat) h (counted_as reply) (named_solo_of w' seat)
  added_as decided =
      addition_by end w seat a.number a.lemma h settled at w' (named_inside_entry s seat a).step first (named_inside s seat a) reply (nat_lt (addition_count (beneath s).history) s.max_steps)
      (λ x e. inside_legal_named s settled.reached seat a x proper e) decided called keeps

  refused_as : (x : Refusal) (P : Reply → Solo → Type 0) → P (counted_as (replies.Refused x)) (named_solo_of w seat) → P (replies.Refused (NoMemory no_memory)) (named_solo_of w seat) → named_inside s seat a ≡ Err x → P (counted_as reply) (named_solo_of w' seat)
  refused_as x P refused short is = refused_by w w' seat (named_inside_entry s seat a) first (named_inside s seat a) reply x P refused short is called

  refused_alone : (x : Refusal) → IsPlain x → named_inside s seat a ≡ Err x → IsRefusedOrNoMemory x (named_solo_of w seat) (counted_as reply) (named_solo_of w' seat)
  refused_alone x plain is = refused_as x (IsRefusedOrNoMemory x (named_solo_of w seat)) (inl plain, refl) (inr refl, refl) is

  tried : (b : Addition) (answer : RatAnswer) → named_inside s seat a ≡ if_free (or_full (beneath s) (rat_refusal answer)) (if_variables_left s seat a.lemma.clause) → Ends (named_solo_of w seat) (counted_as reply) (named_solo_of w' seat)
  tried b (rats.Covered groups) is = open_of (own_clauses end seat) a.number a.lemma (named_solo_of w seat) h (counted_as reply) (named_solo_of w' seat) (added_as is)
  tried b (rats.MissingGroup n) is = refused_as (MissingGroup n) (Ends (named_solo_of w seat)) refl refl is
  tried b (rats.GroupStuck n place) is = refused_as (GroupStuck n place) (Ends (named_solo_of w seat)) refl refl is
  tried b (rats.GroupOpen n) is = refused_as (GroupOpen n) (Ends (named_solo_of w seat)) refl refl is

  opened : (b : Addition) (left : LiteralSet) (pivot : Option ℤ) → named_inside s seat a ≡ if_free (or_full (beneath s) (open_refusal (live (beneath s)) b left (option_map (literal_image names) pivot))) (if_variables_left s seat a.lemma.clause)
      → IfPivot pivot (own_clauses end seat) a.number a.lemma (named_solo_of w seat) h (counted_as reply) (named_solo_of w' seat)
  opened b left None is = refused_alone EmptyOpen refl is
  opened b left (Some q) is = tried b (rat (live (beneath s)) left (literal_image names q) b.groups) is

  ended : (b : Addition) → b.lemma ≡ lemma_image names a.lemma → (propagated : Propagation) → named_inside s seat a ≡ inside_call s seat a.lemma.clause b (propagation_image names propagated)
      → IsSoloPropagated propagated (own_clauses end seat) a.number a.lemma (named_solo_of w seat) h (counted_as reply) (named_solo_of w' seat)
  ended b lemma (Closed used) is = added_as is
  ended b lemma (Open left) is = opened b (image names left) a.lemma.pivot
      (is ∙ ap (λ (l : LemmaValue). if_free (or_full (beneath s) (open_refusal (live (beneath s)) b (image names left) l.pivot)) (if_variables_left s seat a.lemma.clause)) lemma)
  ended b lemma (Stuck place) is = refused_alone (HintNotUnit place) refl is

  -- by what is taken beneath
  by_take : (r : Result CaseValue Refusal) → solo_take (view_of (beneath s) seat) seat a ≡ r → fin.contains_key h a.number ≡ false → IsSoloInside (solo_case h seat a) (own_clauses end seat) (named_solo_of w seat) h (counted_as reply) (named_solo_of w' seat)
  by_take r taken unbound =
      subst (λ (q : Result CaseValue Refusal). IsSoloInside q (own_clauses end seat) (named_solo_of w seat) h (counted_as reply) (named_solo_of w' seat)) (sym case_is) (go r taken)
    where
      given_out_so : IsGiven (beneath s)
      given_out_so = IsGiven-sound (beneath s) (IsSound-reached (beneath s) (beneath_is_reached s settled.reached))

      own : Renaming
      own = own_names s seat a settled.formula settled.reached

      taken_is : solo_take (named_view s seat) seat a ≡ solo_case h seat a
      taken_is = ap (λ (v : View). solo_take v seat a) at ∙ ap (λ (b : Bool). if b then Err NumberTaken else solo_case h seat a) unbound

      case_is : solo_case h seat a ≡ take_image own r
      case_is = sym taken_is ∙ own_take s seat a settled.formula settled.reached ∙ ap (take_image own) taken

      go : (q : Result CaseValue Refusal) → solo_take (view_of (beneath s) seat) seat a ≡ q → IsSoloInside (take_image own q) (own_clauses end seat) (named_solo_of w seat) h (counted_as reply) (named_solo_of w' seat)
      go (Err x) e = refused_alone x (take_plain (view_of (beneath s) seat) seat a x e) (ap (named_inside_after s seat) (take_alone (beneath s) seat a given_out_so ∙ e))
      go (Ok c) e =
          let fits = take_fits seat (view_of (beneath s) seat) a c e in
          let joint : CaseValue = beneath_case s seat a settled.formula settled.reached c in
          let sparse : solo_take (view_of (beneath s) seat) seat (addition_beneath s seat a) ≡ Ok joint =
          joint_take s seat a settled.formula settled.reached ∙ ap (with_lemma (joint_lemma s seat a settled.formula settled.reached)) e in
          let test : LemmaValue → Addition = λ (l : LemmaValue). joint_addition (next (beneath s)) (record c { lemma = lemma_image (names_with s seat l.clause) l }) in
          let call : named_inside s seat a ≡ inside_call s seat a.lemma.clause (test a.lemma) (propagation_image names (propagation_of (hints_image own c))) =
          ap (named_inside_after s seat) (take_alone (beneath s) seat a given_out_so ∙ e)
          ∙ ap (λ (l : LemmaValue). inside_call s seat l.clause (test l) (first_propagation (live (beneath s)) (test l))) fits.lemma
          ∙ ap (inside_call s seat a.lemma.clause (test a.lemma))
          (propagated_here (beneath s) seat (addition_beneath s seat a) joint given_out_so sparse ∙ (propagations s seat a settled.formula settled.reached c e).propagated) in
          subst (λ (l : LemmaValue). IsSoloPropagated (propagation_of (hints_image own c)) (own_clauses end seat) c.own l (named_solo_of w seat) h (counted_as reply) (named_solo_of w' seat)) (sym fits.lemma)
          (subst (λ (n : ℕ). IsSoloPropagated (propagation_of (hints_image own c)) (own_clauses end seat) n a.lemma (named_solo_of w seat) h (counted_as reply) (named_solo_of w' seat)) (sym fits.number)
          (ended (test a.lemma) refl (propagation_of (hints_image own c)) call))

pub inside_alone : (end : NamedState) (w w' : NamedWorld) (seat : ℕ) (a : Addition) (reply : Reply) → IsNamedSettled w → IsProper a.lemma → Keeps w'.state end → IsNamedAnswered w (events.Inside seat a) reply w'
    → IsSoloAnswer (own_clauses end seat) seat (named_solo_of w seat) (events.Inside seat a) (counted_as reply) (named_solo_of w' seat)
inside_alone end w w' seat a reply settled proper keeps called =
    if_free_named w w' seat a.number (free_refusal (beneath w.state) seat a.number) (named_inside w.state seat a) replies.Added (named_inside_entry w.state seat a) reply
    (λ h. IsSoloInside (solo_case h seat a) (own_clauses end seat) (named_solo_of w seat) h (counted_as reply) (named_solo_of w' seat))
    (λ x is. is)
    (λ h at unbound. by_take end w w' seat a reply settled proper keeps called h at (solo_take (view_of (beneath w.state) seat) seat a) refl unbound)
    called
