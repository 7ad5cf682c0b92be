-- The replies of the book in joint variables where an own number is to be bound to a live one.
use Rattle.std.specs.Prelude.{ℕ, length, if◌then◌else◌, Result, Ok, Err}
use Rattle.std.specs.FinMap as fin
use Rattle.lj_clause.specs.LiteralSet.{LiteralSet}
use Rattle.lj_book.specs.declared.entry.Call.TheVariants as calls
use Rattle.lj_book.specs.declared.entry.Entry.{Entry}
use Rattle.lj_book.specs.declared.entry.Imported.{Imported}
use Rattle.lj_book.specs.declared.refusal.Refusal.{Refusal}
use Rattle.lj_book.specs.declared.refusal.Refusal.TheVariants.{NoSuchClause}
use Rattle.lj_book.specs.State.{State, live}
use Rattle.lj_book.specs.Imports.{found, import_step}
use Rattle.lj_book.specs.Calls.{free_refusal, if_free, imported}

-- the place of the entry, where the joint number lives
abbrev pub adopt_reply : State → ℕ → ℕ → ℕ → Result ℕ Refusal
adopt_reply s seat own joint =
    if_free (free_refusal s seat own)
    (if fin.contains_key (live s) joint then Ok (length s.history) else Err NoSuchClause)

-- the place of the entry, and the number that is bound by what is found
abbrev pub import_reply : State → ℕ → ℕ → LiteralSet → Result Imported Refusal
import_reply s seat own clause =
    if_free (free_refusal s seat own) (imported s (found s clause))

-- the entry of an import
abbrev pub import_entry : State → ℕ → ℕ → LiteralSet → Entry
import_entry s seat own clause = record
    { seat = seat; call = calls.Import own clause; step = import_step s clause }
