-- What a list of events answers and leaves.
use Rattle.std.specs.Prelude.{◌≡◌, Option, IfSome, Result, Ok, Err, IfErr}
use Rattle.lj_hint.specs.Case.{CaseValue, propagation_of}
use Rattle.lj_hint.specs.Tested.{tested_of, IfAnswered, IfNoMemory}
use Rattle.lj_hint.specs.declared.tested.Tested.{Tested}
use Rattle.lj_hint.specs.declared.tested.Tested.TheVariants as tests
use Rattle.lj_book.specs.declared.refusal.Refusal.{Refusal}
use Rattle.lj_book.specs.declared.refusal.Refusal.TheVariants.{NoMemory}
use Rattle.lj_book.specs.declared.event.Reply.{Reply}
use Rattle.lj_book.specs.declared.event.Reply.TheVariants as replies
use Rattle.lj_book.specs.declared.event.Pending.{Pending}
use Rattle.lj_book.specs.declared.event.Pending.TheVariants as pendings
use Rattle.lj_book.specs.Calls.{IsReply}

-- ---- events that are calls

-- the reply of an event whose call answered so
abbrev pub reply_by : {A : Type 0} → (A → Reply) → Result A Refusal → Reply
reply_by told (Ok x) = told x
reply_by told (Err e) = replies.Refused e

-- The call answers its reply, where NoMemory may come in place of an answer that isn't a refusal. The event tells what
-- it answered, and leaves what comes after that answer.
pub record IsCalled {A B : Type 0} (call : Result A Refusal) (told : A → Reply)
    (left : Result A Refusal → B) (reply : Reply) (after : B) : Type 0 where
  pub answer : Result A Refusal
  pub answers : IsReply answer call
  pub refused : IfErr call (λ e. answer ≡ Err e)
  pub tells : reply ≡ reply_by told answer
  pub leaves : after ≡ left answer

-- The same for a call that takes memory to find its refusals: NoMemory may come in place of any answer but that of the
-- refusal that is found first, if there is one.
pub record IsTried {A B : Type 0} (first : Option Refusal) (call : Result A Refusal)
    (told : A → Reply) (left : Result A Refusal → B) (reply : Reply) (after : B) : Type 0 where
  pub answer : Result A Refusal
  pub answers : IsReply answer call
  pub refused : IfSome first (λ e. answer ≡ Err e)
  pub tells : reply ≡ reply_by told answer
  pub leaves : after ≡ left answer

-- the case that a take leaves pending, or nothing
abbrev pub case_taken : Result CaseValue Refusal → Pending
case_taken (Ok c) = pendings.Case c
case_taken (Err e) = pendings.Nothing

-- ---- tests

-- the reply to a test that was answered so
abbrev pub reply_to_test : Tested → Reply
reply_to_test (tests.Closed receipt) = replies.Closed
reply_to_test (tests.Open c) = replies.Open
reply_to_test (tests.Stuck place) = replies.Stuck place
reply_to_test (tests.NoMemory c e) = replies.Refused (NoMemory e)

-- the receipt of a propagation that closed, nothing where it didn't, and the case where it wasn't walked for want of memory
abbrev pub pending_after_test : Tested → Pending
pending_after_test (tests.Closed receipt) = pendings.Receipt receipt
pending_after_test (tests.Open c) = pendings.Nothing
pending_after_test (tests.Stuck place) = pendings.Nothing
pending_after_test (tests.NoMemory c e) = pendings.Case c

-- The test of a case answers how its propagation ends, or NoMemory with the case.
pub record IsTested {B : Type 0} (c : CaseValue) (left : Pending → B) (reply : Reply)
    (after : B) : Type 0 where
  pub answer : Tested
  pub propagate : IfAnswered answer (λ a. a ≡ tested_of c (propagation_of c))
  pub no_memory : IfNoMemory answer (λ d. d ≡ c)
  pub tells : reply ≡ reply_to_test answer
  pub leaves : after ≡ left (pending_after_test answer)

-- an event for which nothing was pending answers so, and leaves all as it was
abbrev pub IsNothing : {B : Type 0} → B → Reply → B → Type 0
IsNothing before reply after = (reply ≡ replies.Nothing) × (after ≡ before)

-- a test of what is pending, if that is a case
abbrev pub IsTestOf : {B : Type 0} → Pending → B → (Pending → B) → Reply → B → Type 0
IsTestOf pendings.Nothing before left reply after = IsNothing before reply after
IsTestOf (pendings.Case c) before left reply after = IsTested c left reply after
IsTestOf (pendings.Receipt r) before left reply after = IsNothing before reply after
