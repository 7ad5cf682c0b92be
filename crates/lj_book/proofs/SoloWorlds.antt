-- Worlds: whose the pending things are, and what an event leaves for the other seats.
use Rattle.std.proofs.Common.{◌≡◌, ap, refl, sym, ◌∙◌, subst, ℕ, zero, suc, ◌<◌, ◌≤◌, Bool, true, false, arith}
use Rattle.std.specs.Prelude.{nat_lt, List, [], ◌∷◌, length, Option, Some, is_some, if◌then◌else◌, slice_index_or, slice_set, Result, Ok, Err, IfErr}
use Rattle.std.proofs.lemmas.Bool.{false≢true}
use Rattle.std.proofs.lemmas.Bool.Decides.{nat_tests}
use Rattle.lj_clause.specs.LiteralSet.{LiteralSet}
use Rattle.lj_clause.specs.Memory.{no_memory}
use Rattle.lj_clause.specs.Propagation.{Propagation, Closed, Open, Stuck}
use Rattle.lj_hint.specs.Case.{CaseValue, propagation_of}
use Rattle.lj_hint.specs.Receipt.{ReceiptValue, receipt_of}
use Rattle.lj_hint.specs.Tested.{tested_of, IfAnswered, IfNoMemory}
use Rattle.lj_hint.specs.declared.tested.Tested.{Tested}
use Rattle.lj_hint.specs.declared.tested.Tested.TheVariants as tests
use Rattle.lj_book.specs.declared.refusal.Refusal.{Refusal}
use Rattle.lj_book.specs.declared.refusal.Refusal.TheVariants.{Full, NoMemory}
use Rattle.lj_book.specs.declared.entry.Imported.{Imported}
use Rattle.lj_book.specs.declared.event.Reply.{Reply}
use Rattle.lj_book.specs.declared.event.Reply.TheVariants as replies
use Rattle.lj_book.specs.declared.event.Pending.{Pending}
use Rattle.lj_book.specs.declared.event.Pending.TheVariants as pendings
use Rattle.lj_book.specs.declared.found.Found.{Found}
use Rattle.lj_book.specs.declared.found.Found.TheVariants.{Equal, Part, Neither}
use Rattle.lj_book.specs.State.{State, addition_count, next}
use Rattle.lj_book.specs.Imports.{step_by, number_by, found, import_step, import_number}
use Rattle.lj_book.specs.Calls.{IsRefusal, IsReply, imported}
use Rattle.lj_book.specs.Worlds.{reply_by, IsCalled, IsTried, pending_after_test}

-- ---- calls and tests by their outcome

-- A call was accepted, refused, or short of memory, where it wouldn't have been refused.
pub called_by : {A B : Type 0} (call : Result A Refusal) (told : A → Reply) (left : Result A Refusal → B) (reply : Reply) (after : B) (P : Reply → B → Type 0) → ((x : A) → call ≡ Ok x → P (told x) (left (Ok x))) → ((e : Refusal) → call ≡ Err e → P (replies.Refused e) (left (Err e))) → ((x : A) → call ≡ Ok x → P (replies.Refused (NoMemory no_memory)) (left (Err (NoMemory no_memory)))) → IsCalled call told left reply after → P reply after
called_by {A} {B} call told left reply after P accepted refused short called =
    subst (λ (r : Reply). P r after) (sym called.tells) (subst (P (reply_by told called.answer)) (sym called.leaves) (go call refl called.answer called.answers called.refused))
  where
    refusal : (x : A) → call ≡ Ok x → (e : Refusal) → IsRefusal e (Ok x) → P (replies.Refused e) (left (Err e))
    refusal x is (NoMemory _) h = short x is
    refusal x is e h = absurd (cc)

    go : (c : Result A Refusal) → call ≡ c → (answer : Result A Refusal) → IsReply answer c → IfErr c (λ e. answer ≡ Err e) → P (reply_by told answer) (left answer)
    go (Ok x) is (Ok y) h r = accepted y (is ∙ h)
    go (Ok x) is (Err e) h r = refusal x is e h
    go (Err e) is answer h r = subst (λ (a : Result A Refusal). P (reply_by told a) (left a)) (sym r) (refused e is)

-- The same of a call that may be short of memory before it is refused.
pub tried_by : {A B : Type 0} (first : Option Refusal) (call : Result A Refusal) (told : A → Reply) (left : Result A Refusal → B) (reply : Reply) (after : B) (P : Reply → B → Type 0) → ((x : A) → call ≡ Ok x → P (told x) (left (Ok x))) → ((e : Refusal) → call ≡ Err e → P (replies.Refused e) (left (Err e))) → P (replies.Refused (NoMemory no_memory)) (left (Err (NoMemory no_memory))) → IsTried first call told left reply after → P reply after
tried_by {A} {B} first call told left reply after P accepted refused short called =
    subst (λ (r : Reply). P r after) (sym called.tells) (subst (P (reply_by told called.answer)) (sym called.leaves) (go called.answer called.answers))
  where
    refusal : (e : Refusal) → IsRefusal e call → P (replies.Refused e) (left (Err e))
    refusal (NoMemory _) h = short
    refusal e h = refused e h

    go : (answer : Result A Refusal) → IsReply answer call → P (reply_by told answer) (left answer)
    go (Ok x) h = accepted x h
    go (Err e) h = refusal e h

-- A test leaves nothing, a receipt of the case, or the case.
pub tested_by : (c : CaseValue) (answer : Tested) (P : Pending → Type 0) → P pendings.Nothing → ((n : ℕ) → P (pendings.Receipt (receipt_of c n))) → P (pendings.Case c) → IfAnswered answer (λ a. a ≡ tested_of c (propagation_of c)) → IfNoMemory answer (λ d. d ≡ c) → P (pending_after_test answer)
tested_by c (tests.Closed receipt) P nothing some same answered short = go (propagation_of c) answered
  where
    go : (w : Propagation) → tests.Closed receipt ≡ tested_of c w → P (pendings.Receipt receipt)
    go (Closed used) e = let is : receipt ≡ receipt_of c (length used) = cc in subst (λ (r : ReceiptValue). P (pendings.Receipt r)) (sym is) (some (length used))
    go (Open a) e = absurd (cc)
    go (Stuck place) e = absurd (cc)
tested_by c (tests.Open d) P nothing some same answered short = nothing
tested_by c (tests.Stuck place) P nothing some same answered short = nothing
tested_by c (tests.NoMemory d e) P nothing some same answered short = subst (λ (x : CaseValue). P (pendings.Case x)) (sym short) same

-- ---- pending things

pub pending-set : (ps : List Pending) (seat : ℕ) (p : Pending) → (length ps ≤ seat → p ≡ pendings.Nothing) → slice_index_or (slice_set ps seat p) seat pendings.Nothing ≡ p
pending-set [] seat p h = sym (h (omega arith))
pending-set (q ∷ ps) zero p h = refl
pending-set (q ∷ ps) (suc seat) p h = pending-set ps seat p (λ long. h (omega arith))

pub pending-set_other : (ps : List Pending) (k seat : ℕ) (p : Pending) → (k ≡ seat → ⊥) → slice_index_or (slice_set ps k p) seat pendings.Nothing ≡ slice_index_or ps seat pendings.Nothing
pending-set_other [] k seat p apart = refl
pending-set_other (q ∷ ps) zero zero p apart = absurd (apart refl)
pending-set_other (q ∷ ps) zero (suc seat) p apart = refl
pending-set_other (q ∷ ps) (suc k) zero p apart = refl
pending-set_other (q ∷ ps) (suc k) (suc seat) p apart = pending-set_other ps k seat p (λ e. apart (ap suc e))

pub length-pending_set : (ps : List Pending) (k : ℕ) (p : Pending) → length (slice_set ps k p) ≡ length ps
length-pending_set [] k p = refl
length-pending_set (q ∷ ps) zero p = refl
length-pending_set (q ∷ ps) (suc k) p = ap suc (length-pending_set ps k p)

pub pending_past : (ps : List Pending) (seat : ℕ) → length ps ≤ seat → slice_index_or ps seat pendings.Nothing ≡ pendings.Nothing
pending_past [] seat h = refl
pending_past (q ∷ ps) zero h = absurd (omega arith)
pending_past (q ∷ ps) (suc seat) h = pending_past ps seat (omega arith)

-- ---- what an event of a seat leaves

-- What an accepted import binds, and what its step needs.
pub record IsImported (s : State) (c : LiteralSet) (x : Imported) : Type 0 where
  pub number : import_number s c ≡ Some x.joint
  pub capacity : is_some (import_step s c) ≡ true → addition_count s.history < s.max_steps

pub imported_is : (s : State) (c : LiteralSet) (x : Imported) → imported s (found s c) ≡ Ok x → IsImported s c x
imported_is s c x e = go (found s c) refl e
  where
    fits : (n m : ℕ) → nat_lt n m ≡ true → n < m
    fits n m e = grind (arith, nat_tests)

    full : (b : Bool) (y : Imported) → nat_lt (addition_count s.history) s.max_steps ≡ b → (if b then Ok y else Err Full) ≡ Ok x → (addition_count s.history < s.max_steps) × (y ≡ x)
    full true y lt h = (fits (addition_count s.history) s.max_steps lt, (let same : y ≡ x = cc in same))
    full false y lt h = absurd (let no : ⊥ = cc in no)

    go : (f : Found) → found s c ≡ f → imported s f ≡ Ok x → IsImported s c x
    go (Equal joint) is h =
        let made : Imported = record { place = length s.history; joint = joint } in
        let same : made ≡ x = cc in
        record {
          number = ap (number_by (next s)) is ∙ ap (λ (i : Imported). Some i.joint) same;
          capacity = λ some. absurd (false≢true (sym (ap (λ (f : Found). is_some (step_by (next s) c f)) is) ∙ some));
        }
    go (Part part) is h =
        let made : Imported = record { place = length s.history; joint = next s } in
        let both = full (nat_lt (addition_count s.history) s.max_steps) made refl h in
        record {
          number = ap (number_by (next s)) is ∙ ap (λ (i : Imported). Some i.joint) both.1;
          capacity = λ some. both.0;
        }
    go Neither is h = absurd (let no : ⊥ = cc in no)
