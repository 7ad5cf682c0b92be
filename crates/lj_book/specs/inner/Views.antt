-- What a seat sees in the joint book behind an entry, and the refusals of an addition whose propagation closes.
use Rattle.std.specs.Prelude.{Some, None}
use Rattle.std.specs.FinMap as fin
use Rattle.lj_book.specs.declared.entry.Call.{Call}
use Rattle.lj_book.specs.declared.entry.Call.TheVariants as calls
use Rattle.lj_book.specs.declared.refusal.Refusal.{Refusal}
use Rattle.lj_book.specs.declared.refusal.Refusal.TheVariants.{Full, NoMemory}
use Rattle.lj_book.specs.State.{State, next, live}
use Rattle.lj_book.specs.Imports.{import_number}
use Rattle.lj_book.specs.Solo.{Holdings, View, with_clause, without_holdings}
use Rattle.lj_book.specs.Views.{with_found_holding}

-- ---- what a seat sees behind an entry

-- what these holdings of the caller become by its call
abbrev pub view_after_call : State → Call → Holdings → View
view_after_call s (calls.Add own lemma) h = Some
    (fin.insert h own (record { joint = next s; clause = lemma.clause }))
view_after_call s (calls.Drop numbers) h = Some (without_holdings numbers h)
view_after_call s (calls.Adopt own joint) h = Some
    (fin.insert h own (with_clause (live s) joint))
view_after_call s (calls.Import own c) h = Some (with_found_holding h own (import_number s c) c)
view_after_call s calls.Leave h = None

-- ---- refusals

-- the history is full, or memory is short
abbrev pub IsFullOrNoMemory : Refusal → Type 0
IsFullOrNoMemory Full = Unit {0}
IsFullOrNoMemory (NoMemory e) = Unit {0}
IsFullOrNoMemory e = ⊥
