-- Additions inside by seats that name their variables: the entry, and what lies beneath.
use Rattle.std.specs.Prelude.{◌≡◌, ℕ, Bool, if◌then◌else◌, Result, Ok, Err}
use Rattle.lj_text.specs.declared.line.Addition.{Addition}
use Rattle.lj_book.specs.declared.entry.Call.TheVariants as calls
use Rattle.lj_book.specs.declared.entry.Entry.{Entry}
use Rattle.lj_book.specs.declared.entry.Added.{Added}
use Rattle.lj_book.specs.declared.refusal.Refusal.{Refusal}
use Rattle.lj_book.specs.declared.refusal.Refusal.TheVariants.{Full, NoVariableLeft, NoMemory}
use Rattle.lj_book.specs.Calls.{take_reply}
use Rattle.lj_book.specs.Inside.{inside_reply, inside_step, inside_entry}
use Rattle.lj_book.specs.Named.{NamedState, beneath, entry_beneath, has_variables_for}
use Rattle.lj_book.specs.NamedReplies.{named_inside}
use Rattle.lj_book.specs.NamedViews.{addition_beneath}

-- the entry of an addition that isn't refused: its call speaks the seat's variables, and its step joint ones
abbrev pub named_inside_entry : NamedState → ℕ → Addition → Entry
named_inside_entry s seat a = record {
  seat = seat;
  call = calls.Add a.number a.lemma;
  step = inside_step (beneath s) (take_reply (beneath s) seat (addition_beneath s seat a));
}

-- an accepted reply, where as many joint variables are left
abbrev pub if_left : Bool → Result Added Refusal → Result Added Refusal
if_left left (Err e) = Err e
if_left left (Ok added) = if left then Ok added else Err NoVariableLeft

-- the history is full, no joint variable is left, or memory is short
abbrev pub IsClosedRefusal : Refusal → Type 0
IsClosedRefusal Full = Unit {0}
IsClosedRefusal NoVariableLeft = Unit {0}
IsClosedRefusal (NoMemory e) = Unit {0}
IsClosedRefusal e = ⊥

-- The reply is that of the book beneath, where as many joint variables are left.
abbrev pub RepliesAreBeneath : Type 0
RepliesAreBeneath = (s : NamedState) (seat : ℕ) (a : Addition) → named_inside s seat a
    ≡ if_left (has_variables_for s seat a.lemma.clause)
    (inside_reply (beneath s) seat (addition_beneath s seat a))

-- The entry beneath is the one that the book beneath makes.
abbrev pub EntriesAreBeneath : Type 0
EntriesAreBeneath = (s : NamedState) (seat : ℕ) (a : Addition)
    → entry_beneath s (named_inside_entry s seat a)
    ≡ inside_entry (beneath s) seat (addition_beneath s seat a)
