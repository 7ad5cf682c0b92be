-- What the entry of a call has to say.
use Rattle.std.specs.Prelude.{◌≡◌, ◌==◌, ℕ, List, filter, map}
use Rattle.lj_text.specs.declared.line.Line.{Line}
use Rattle.lj_text.specs.declared.line.Line.TheVariants as lines
use Rattle.lj_book.specs.declared.entry.Call.{Call}
use Rattle.lj_book.specs.declared.entry.Call.TheVariants as calls
use Rattle.lj_book.specs.declared.entry.Entry.{Entry}

-- the call that a line makes
abbrev pub call_of : Line → Call
call_of (lines.Add a) = calls.Add a.number a.lemma
call_of (lines.Delete numbers) = calls.Drop numbers
call_of (lines.Import number clause) = calls.Import number clause

-- The entry has this seat and this call.
pub record IsEntryOf (seat : ℕ) (call : Call) (e : Entry) : Type 0 where
  pub seat_is : e.seat ≡ seat
  pub call_is : e.call ≡ call

-- the entries of a seat, in order
abbrev pub entries_of : ℕ → List Entry → List Entry
entries_of seat history = filter (λ e. e.seat == seat) history

-- the calls of a seat's entries, in order
abbrev pub calls_of : ℕ → List Entry → List Call
calls_of seat history = map (λ e. e.call) (entries_of seat history)
