-- Entries that are told where they are asked for.
use Rattle.std.specs.Prelude.{◌≡◌, ℕ, Bool, Option, None, MatchBool, IsSomeAnd}
use Rattle.lj_book.specs.declared.entry.Call.{Call}
use Rattle.lj_book.specs.declared.entry.Entry.{Entry}
use Rattle.lj_share.specs.Entries.{IsEntryOf}

-- A token of this seat and this call is told if it is asked for.
abbrev pub IsTokenOf : Bool → ℕ → Call → Option Entry → Type 0
IsTokenOf with_entry seat call told = MatchBool with_entry (IsSomeAnd told (IsEntryOf seat call))
    (told ≡ None)
