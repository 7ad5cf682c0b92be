-- What a list of events answers and leaves, where the seats name variables as they like.
use Rattle.std.specs.Prelude.{◌≡◌, ℕ, List, [], ◌∷◌, length, replicate, slice_index_or, slice_set, Result, Ok, Err}
use Rattle.lj_book.specs.declared.refusal.Refusal.{Refusal}
use Rattle.lj_book.specs.declared.entry.Entry.{Entry}
use Rattle.lj_book.specs.declared.event.Event.{Event}
use Rattle.lj_book.specs.declared.event.Event.TheVariants as events
use Rattle.lj_book.specs.declared.event.Reply.{Reply}
use Rattle.lj_book.specs.declared.event.Reply.TheVariants as replies
use Rattle.lj_book.specs.declared.event.Pending.{Pending}
use Rattle.lj_book.specs.declared.event.Pending.TheVariants as pendings
use Rattle.lj_book.specs.Calls.{free_refusal, drop_entry, adopt_entry, leave_entry}
use Rattle.lj_book.specs.Worlds.{IsCalled, IsTried, case_taken, IsNothing, IsTestOf}
use Rattle.lj_book.specs.Named.{NamedState, beneath, after_named}
use Rattle.lj_book.specs.NamedViews.{named_take}
use Rattle.lj_book.specs.NamedReplies.{named_inside, named_commit_refusal, named_commit, named_drop, named_adopt, import_refusal, named_import, named_leave}
use Rattle.lj_book.specs.NamedInside.{named_inside_entry}
use Rattle.lj_book.specs.NamedEntries.{named_commit_entry, named_import_entry}

-- A state, and for each seat what is pending for it, in its own variables.
pub record NamedWorld : Type 0 where
  pub state : NamedState
  pub pending : List Pending

-- a state in which nothing is pending
abbrev pub named_nothing_pending : NamedState → NamedWorld
named_nothing_pending s = record
    { state = s; pending = replicate (length s.tables) pendings.Nothing }

-- what is pending for a seat
abbrev pub named_pending_at : NamedWorld → ℕ → Pending
named_pending_at w seat = slice_index_or w.pending seat pendings.Nothing

-- the world where this is pending for the seat
abbrev pub with_named_pending : NamedWorld → ℕ → Pending → NamedWorld
with_named_pending w seat p = record w { pending = slice_set w.pending seat p }

-- the world where the entry was made, if the call was accepted
abbrev pub if_named_entered : {A : Type 0} → NamedWorld → Entry → Result A Refusal → NamedWorld
if_named_entered w entry (Ok x) = record w { state = after_named w.state entry }
if_named_entered w entry (Err e) = w

-- A commit of what is pending for the seat. A receipt isn't pending any more, whether it is refused or not.
abbrev pub IsNamedCommitOf : Pending → NamedWorld → ℕ → Reply → NamedWorld → Type 0
IsNamedCommitOf pendings.Nothing w seat reply after = IsNothing w reply after
IsNamedCommitOf (pendings.Case c) w seat reply after = IsNothing w reply after
IsNamedCommitOf (pendings.Receipt r) w seat reply after =
    IsTried (named_commit_refusal w.state r) (named_commit w.state r) replies.Added
    (if_named_entered (with_named_pending w seat pendings.Nothing) (named_commit_entry w.state r))
    reply after

-- The event answers this reply in the world, and leaves the other.
abbrev pub IsNamedAnswered : NamedWorld → Event → Reply → NamedWorld → Type 0
IsNamedAnswered w (events.Take seat a) reply after =
    IsTried (free_refusal (beneath w.state) seat a.number) (named_take w.state seat a)
    (λ _. replies.Taken) (λ answer. with_named_pending w seat (case_taken answer)) reply after
IsNamedAnswered w (events.Test seat) reply after =
    IsTestOf (named_pending_at w seat) w (with_named_pending w seat) reply after
IsNamedAnswered w (events.Commit seat) reply after =
    IsNamedCommitOf (named_pending_at w seat) w seat reply after
IsNamedAnswered w (events.Inside seat a) reply after =
    IsTried (free_refusal (beneath w.state) seat a.number) (named_inside w.state seat a)
    replies.Added (if_named_entered w (named_inside_entry w.state seat a)) reply after
IsNamedAnswered w (events.Drop seat numbers) reply after =
    IsCalled (named_drop w.state seat numbers) replies.Dropped
    (if_named_entered w (drop_entry (beneath w.state) seat numbers)) reply after
IsNamedAnswered w (events.Adopt seat own joint) reply after =
    IsCalled (named_adopt w.state seat own joint) replies.Adopted
    (if_named_entered w (adopt_entry seat own joint)) reply after
IsNamedAnswered w (events.Import seat own clause) reply after =
    IsTried (import_refusal w.state seat own clause) (named_import w.state seat own clause)
    replies.Imported (if_named_entered w (named_import_entry w.state seat own clause)) reply after
IsNamedAnswered w (events.Leave seat) reply after =
    IsCalled (named_leave w.state seat) replies.Left
    (if_named_entered w (leave_entry (beneath w.state) seat)) reply after

-- Each event answers its reply in the world that those before it leave, and the last leaves the world at the end. There
-- is one reply for each event.
abbrev pub IsNamedRun : NamedWorld → List Event → List Reply → NamedWorld → Type 0
IsNamedRun w [] [] end = end ≡ w
IsNamedRun w [] (r ∷ rs) end = ⊥
IsNamedRun w (e ∷ es) [] end = ⊥
IsNamedRun w (e ∷ es) (r ∷ rs) end = (after : NamedWorld)
    × (IsNamedAnswered w e r after × IsNamedRun after es rs end)

-- The events, played from a state in which nothing is pending, answer these replies and lead to the other state.
abbrev pub IsNamedPlayed : NamedState → List Event → List Reply → NamedState → Type 0
IsNamedPlayed s es rs end = (pending : List Pending)
    × IsNamedRun (named_nothing_pending s) es rs (record { state = end; pending = pending })
