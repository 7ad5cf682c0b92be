-- What an event of a seat that names its variables leaves for the other seats.
use Rattle.std.proofs.Common.{◌≡◌, ap, refl, sym, ◌∙◌, subst, ℕ, zero, suc}
use Rattle.std.specs.Prelude.{List, [], ◌∷◌, length, replicate, Option, slice_index_or, slice_set, Result, Ok}
use Rattle.lj_clause.specs.LiteralSet.{negations}
use Rattle.lj_clause.specs.Lemma.{IsLemma}
use Rattle.lj_clause.specs.ClauseMap.{IsFormula}
use Rattle.lj_clause.specs.Propagation.{Propagation, Closed, Open, Stuck}
use Rattle.lj_text.specs.declared.line.Addition.{Addition}
use Rattle.lj_hint.specs.Case.{CaseValue, propagation_of}
use Rattle.lj_hint.specs.Receipt.{ReceiptValue, IsReceipt, receipt_of}
use Rattle.lj_hint.specs.Ending.{ending_of}
use Rattle.lj_hint.specs.Tested.{tested_of, IfAnswered, IfNoMemory}
use Rattle.lj_hint.specs.declared.tested.Tested.{Tested}
use Rattle.lj_hint.specs.declared.tested.Tested.TheVariants as tests
use Rattle.lj_hint.proofs.Used.{closed_by_read}
use Rattle.lj_book.specs.declared.refusal.Refusal.{Refusal}
use Rattle.lj_book.specs.declared.entry.Entry.{Entry}
use Rattle.lj_book.specs.declared.event.Event.{Event}
use Rattle.lj_book.specs.declared.event.Event.TheVariants as events
use Rattle.lj_book.specs.declared.event.Reply.{Reply}
use Rattle.lj_book.specs.declared.event.Reply.TheVariants as replies
use Rattle.lj_book.specs.declared.event.Pending.{Pending}
use Rattle.lj_book.specs.declared.event.Pending.TheVariants as pendings
use Rattle.lj_book.specs.Calls.{free_refusal, drop_entry, adopt_entry, leave_entry}
use Rattle.lj_book.specs.Events.{seat_of}
use Rattle.lj_book.specs.Worlds.{IsCalled, IsTried, case_taken, pending_after_test, IsTestOf}
use Rattle.lj_book.specs.Solo.{View, Solo}
use Rattle.lj_book.specs.Named.{NamedState, beneath, after_named, IsNamedLegal, IsNamedReached}
use Rattle.lj_book.specs.NamedViews.{named_view, named_take}
use Rattle.lj_book.specs.NamedReplies.{named_inside, named_commit_refusal, named_commit, named_drop, named_adopt, import_refusal, named_import, named_leave}
use Rattle.lj_book.specs.NamedEntries.{named_commit_entry, named_import_entry}
use Rattle.lj_book.specs.NamedInside.{named_inside_entry}
use Rattle.lj_book.specs.NamedWorlds.{NamedWorld, named_nothing_pending, named_pending_at, with_named_pending, if_named_entered, IsNamedCommitOf, IsNamedAnswered}
use Rattle.lj_book.specs.NamedSolo.{IsProper, IsProperEvent}
use Rattle.lj_book.proofs.SoloTakes.{take_fits}
use Rattle.lj_book.proofs.SoloWorlds.{called_by, tried_by, pending-set_other, length-pending_set}
use Rattle.lj_book.proofs.NamedLaws.{rules_reached}
use Rattle.lj_book.proofs.NamedTakes.{named_takes_alone}
use Rattle.lj_book.proofs.OtherViews.{others_leave_views}
use Rattle.lj_book.proofs.EnteringLaws.{named_reached_after}
use Rattle.lj_book.proofs.NamedSoloViews.{Keeps, keeps_itself, keeps_on, keeps_entry}
use Rattle.lj_book.proofs.NamedSoloEntries.{commit_legal, inside_legal_named, drop_legal, leave_legal, adopt_legal, import_legal}

-- a seat's view in its own variables, and what is pending for it
abbrev pub named_solo_of : NamedWorld → ℕ → Solo
named_solo_of w seat = record { view = named_view w.state seat; pending = named_pending_at w seat }

-- ---- pending things

-- what is pending for a seat is the seat's, and a lemma and a receipt are ones
abbrev pub IsSound : ℕ → Pending → Type 0
IsSound seat pendings.Nothing = Unit {0}
IsSound seat (pendings.Case c) = (c.seat ≡ seat) × IsLemma c.lemma
IsSound seat (pendings.Receipt r) = (r.seat ≡ seat) × (IsLemma r.lemma × IsReceipt r)

sound_after_test : (seat : ℕ) (c : CaseValue) (answer : Tested) → (c.seat ≡ seat) × IsLemma c.lemma → IfAnswered answer (λ a. a ≡ tested_of c (propagation_of c)) → IfNoMemory answer (λ d. d ≡ c) → IsSound seat (pending_after_test answer)
sound_after_test seat c (tests.Closed receipt) sound answered short = by (propagation_of c) refl answered
  where
    by : (w : Propagation) → propagation_of c ≡ w → tests.Closed receipt ≡ tested_of c w → IsSound seat (pendings.Receipt receipt)
    by (Closed used) is e =
        let same : receipt ≡ receipt_of c (length used) = cc in
        let closed : IsReceipt (receipt_of c (length used)) = closed_by_read (negations c.lemma.clause) c.hints (length used) (sym (ap ending_of is)) in
        subst (λ (r : ReceiptValue). IsSound seat (pendings.Receipt r)) (sym same) (sound.0, (sound.1, closed))
    by (Open a) is e = absurd (let no : ⊥ = cc in no)
    by (Stuck place) is e = absurd (let no : ⊥ = cc in no)
sound_after_test seat c (tests.Open d) sound answered short = tt
sound_after_test seat c (tests.Stuck place) sound answered short = tt
sound_after_test seat c (tests.NoMemory d e) sound answered short = subst (λ (x : CaseValue). IsSound seat (pendings.Case x)) (sym short) sound

each_set : (Q : ℕ → Pending → Type 0) (ps : List Pending) (seat : ℕ) (p : Pending) → ((k : ℕ) → Q k (slice_index_or ps k pendings.Nothing)) → Q seat p → (k : ℕ) → Q k (slice_index_or (slice_set ps seat p) k pendings.Nothing)
each_set Q [] seat p all here k = all k
each_set Q (q ∷ ps) zero p all here zero = here
each_set Q (q ∷ ps) zero p all here (suc k) = all (suc k)
each_set Q (q ∷ ps) (suc seat) p all here zero = all zero
each_set Q (q ∷ ps) (suc seat) p all here (suc k) = each_set (λ n. Q (suc n)) ps seat p (λ n. all (suc n)) here k

-- What each world keeps that events lead to from a state in which nothing is pending.
pub record IsNamedSettled (w : NamedWorld) : Type 0 where
  pub formula : IsFormula w.state.formula
  pub reached : IsNamedReached w.state
  pub ranges : length w.pending ≡ length w.state.tables
  pub sound : (seat : ℕ) → IsSound seat (named_pending_at w seat)

length_same : {X : Type 0} (n : ℕ) (x : X) → length (replicate n x) ≡ n
length_same zero x = refl
length_same (suc n) x = ap suc (length_same n x)

none_at : (n seat : ℕ) → slice_index_or (replicate n pendings.Nothing) seat pendings.Nothing ≡ pendings.Nothing
none_at zero seat = refl
none_at (suc n) zero = refl
none_at (suc n) (suc seat) = none_at n seat

pub named_nothing_at : (s : NamedState) (seat : ℕ) → named_pending_at (named_nothing_pending s) seat ≡ pendings.Nothing
named_nothing_at s seat = none_at (length s.tables) seat

pub settled_at_first : (s : NamedState) → IsFormula s.formula → IsNamedReached s → IsNamedSettled (named_nothing_pending s)
settled_at_first s is reached = record {
  formula = is;
  reached = reached;
  ranges = length_same (length s.tables) pendings.Nothing;
  sound = λ seat. subst (IsSound seat) (sym (named_nothing_at s seat)) tt;
}

-- ---- what an event of a seat leaves

pub record NamedLeaves (k : ℕ) (w w' : NamedWorld) : Type 0 where
  pub keeps : Keeps w.state w'.state
  pub others : (seat : ℕ) → (k ≡ seat → ⊥) → named_solo_of w' seat ≡ named_solo_of w seat
  pub settled : IsNamedSettled w'

leaves_all : (k : ℕ) (w : NamedWorld) → IsNamedSettled w → NamedLeaves k w w
leaves_all k w settled = record { keeps = keeps_itself w.state settled.reached; others = λ seat apart. refl; settled = settled }

pub leaves_pending : (k : ℕ) (w : NamedWorld) (p : Pending) → IsNamedSettled w → IsSound k p → NamedLeaves k w (with_named_pending w k p)
leaves_pending k w p settled sound = record {
  keeps = keeps_itself w.state settled.reached;
  others = λ seat apart. ap (λ (q : Pending). record { view = named_view w.state seat; pending = q }) (pending-set_other w.pending k seat p apart);
  settled = record {
    formula = settled.formula;
    reached = settled.reached;
    ranges = length-pending_set w.pending k p ∙ settled.ranges;
    sound = each_set IsSound w.pending k p settled.sound sound;
  };
}

leaves_entry : (k : ℕ) (w : NamedWorld) (e : Entry) → IsNamedSettled w → e.seat ≡ k → IsNamedLegal w.state e → NamedLeaves k w (record w { state = after_named w.state e })
leaves_entry k w e settled owner legal =
    let keeps = keeps_entry w.state settled.formula settled.reached e legal in
    let later = named_reached_after w.state e settled.reached legal in
    record {
      keeps = keeps;
      others = λ seat apart. ap (λ (v : View). record { view = v; pending = named_pending_at w seat })
          (others_leave_views w.state e seat settled.reached legal (λ same. apart (sym owner ∙ same)));
      settled = record {
        formula = settled.formula;
        reached = later;
        ranges = settled.ranges ∙ sym (rules_reached w.state settled.reached).seats ∙ sym keeps.grows.seats ∙ (rules_reached (after_named w.state e) later).seats;
        sound = settled.sound;
      };
    }

leaves_on : (k : ℕ) (u v w : NamedWorld) → NamedLeaves k u v → NamedLeaves k v w → NamedLeaves k u w
leaves_on k u v w f g = record {
  keeps = keeps_on u.state v.state w.state f.keeps g.keeps;
  others = λ seat apart. g.others seat apart ∙ f.others seat apart;
  settled = g.settled;
}

leaves_called : {A : Type 0} (w w' : NamedWorld) (entry : Entry) (call : Result A Refusal) (told : A → Reply) (reply : Reply) → IsNamedSettled w → ((x : A) → call ≡ Ok x → IsNamedLegal w.state entry) → IsCalled call told (if_named_entered w entry) reply w' → NamedLeaves entry.seat w w'
leaves_called w w' entry call told reply settled legal called =
    called_by call told (if_named_entered w entry) reply w' (λ r after. NamedLeaves entry.seat w after)
    (λ x e. leaves_entry entry.seat w entry settled refl (legal x e))
    (λ e is. leaves_all entry.seat w settled)
    (λ x is. leaves_all entry.seat w settled) called

leaves_tried : {A : Type 0} (w w' : NamedWorld) (entry : Entry) (first : Option Refusal) (call : Result A Refusal) (told : A → Reply) (reply : Reply) → IsNamedSettled w → ((x : A) → call ≡ Ok x → IsNamedLegal w.state entry) → IsTried first call told (if_named_entered w entry) reply w' → NamedLeaves entry.seat w w'
leaves_tried w w' entry first call told reply settled legal called =
    tried_by first call told (if_named_entered w entry) reply w' (λ r after. NamedLeaves entry.seat w after)
    (λ x e. leaves_entry entry.seat w entry settled refl (legal x e))
    (λ e is. leaves_all entry.seat w settled)
    (leaves_all entry.seat w settled) called

leaves_take : (w w' : NamedWorld) (seat : ℕ) (a : Addition) (reply : Reply) → IsNamedSettled w → IsProper a.lemma → IsNamedAnswered w (events.Take seat a) reply w' → NamedLeaves seat w w'
leaves_take w w' seat a reply settled proper called =
    tried_by (free_refusal (beneath w.state) seat a.number) (named_take w.state seat a) (λ _. replies.Taken) (λ answer. with_named_pending w seat (case_taken answer)) reply w' (λ r after. NamedLeaves seat w after)
    (λ c e.
    let fits = take_fits seat (named_view w.state seat) a c (sym (named_takes_alone w.state seat a settled.reached) ∙ e) in
    leaves_pending seat w (pendings.Case c) settled (fits.owner, subst IsLemma (sym fits.lemma) proper.0))
    (λ e is. leaves_pending seat w pendings.Nothing settled tt)
    (leaves_pending seat w pendings.Nothing settled tt) called

leaves_tested : (w w' : NamedWorld) (seat : ℕ) (p : Pending) (reply : Reply) → IsNamedSettled w → IsSound seat p → IsTestOf p w (with_named_pending w seat) reply w' → NamedLeaves seat w w'
leaves_tested w w' seat pendings.Nothing reply settled sound answered = subst (NamedLeaves seat w) (sym answered.1) (leaves_all seat w settled)
leaves_tested w w' seat (pendings.Receipt r) reply settled sound answered = subst (NamedLeaves seat w) (sym answered.1) (leaves_all seat w settled)
leaves_tested w w' seat (pendings.Case c) reply settled sound answered =
    subst (NamedLeaves seat w) (sym answered.leaves)
    (leaves_pending seat w (pending_after_test answered.answer) settled
    (sound_after_test seat c answered.answer sound answered.propagate answered.no_memory))

leaves_committed : (w w' : NamedWorld) (seat : ℕ) (p : Pending) (reply : Reply) → IsNamedSettled w → IsSound seat p → IsNamedCommitOf p w seat reply w' → NamedLeaves seat w w'
leaves_committed w w' seat pendings.Nothing reply settled sound answered = subst (NamedLeaves seat w) (sym answered.1) (leaves_all seat w settled)
leaves_committed w w' seat (pendings.Case c) reply settled sound answered = subst (NamedLeaves seat w) (sym answered.1) (leaves_all seat w settled)
leaves_committed w w' seat (pendings.Receipt r) reply settled sound answered =
    let without = with_named_pending w seat pendings.Nothing in
    let first = leaves_pending seat w pendings.Nothing settled tt in
    tried_by (named_commit_refusal w.state r) (named_commit w.state r) replies.Added (if_named_entered without (named_commit_entry w.state r)) reply w' (λ q after. NamedLeaves seat w after)
    (λ x e. leaves_on seat w without _ first
    (leaves_entry seat without (named_commit_entry w.state r) first.settled sound.0 (commit_legal w.state settled.reached r x sound.1.1 sound.1.0 e)))
    (λ e is. first)
    first answered

-- what each event leaves
pub named_leaves : (w w' : NamedWorld) (e : Event) (reply : Reply) → IsNamedSettled w → IsProperEvent e → IsNamedAnswered w e reply w' → NamedLeaves (seat_of e) w w'
named_leaves w w' (events.Take seat a) reply settled proper answered = leaves_take w w' seat a reply settled proper answered
named_leaves w w' (events.Test seat) reply settled proper answered = leaves_tested w w' seat (named_pending_at w seat) reply settled (settled.sound seat) answered
named_leaves w w' (events.Commit seat) reply settled proper answered = leaves_committed w w' seat (named_pending_at w seat) reply settled (settled.sound seat) answered
named_leaves w w' (events.Inside seat a) reply settled proper answered =
    leaves_tried w w' (named_inside_entry w.state seat a) (free_refusal (beneath w.state) seat a.number) (named_inside w.state seat a) replies.Added reply settled
    (λ x e. inside_legal_named w.state settled.reached seat a x proper e) answered
named_leaves w w' (events.Drop seat numbers) reply settled proper answered =
    leaves_called w w' (drop_entry (beneath w.state) seat numbers) (named_drop w.state seat numbers) replies.Dropped reply settled (λ x e. drop_legal w.state settled.reached seat numbers x e) answered
named_leaves w w' (events.Adopt seat own joint) reply settled proper answered =
    leaves_called w w' (adopt_entry seat own joint) (named_adopt w.state seat own joint) replies.Adopted reply settled (λ x e. adopt_legal w.state settled.reached seat own joint x e) answered
named_leaves w w' (events.Import seat own clause) reply settled proper answered =
    leaves_tried w w' (named_import_entry w.state seat own clause) (import_refusal w.state seat own clause) (named_import w.state seat own clause) replies.Imported reply settled (λ x e. import_legal w.state settled.reached seat own clause x e) answered
named_leaves w w' (events.Leave seat) reply settled proper answered =
    leaves_called w w' (leave_entry (beneath w.state) seat) (named_leave w.state seat) replies.Left reply settled (λ x e. leave_legal w.state settled.reached seat x e) answered
