-- What the book makes of a seat's line.
use Rattle.std.specs.Prelude.{◌≡◌, ℕ, Bool, Some, is_ok}
use Rattle.lj_clause.specs.Renaming.{image}
use Rattle.lj_text.specs.declared.line.Line.{Line}
use Rattle.lj_text.specs.declared.line.Line.TheVariants as lines
use Rattle.lj_book.specs.declared.entry.Entry.{Entry}
use Rattle.lj_book.specs.Calls.{drop_entry}
use Rattle.lj_book.specs.State.{next}
use Rattle.lj_book.specs.Imports.{import_number}
use Rattle.lj_book.specs.Named.{NamedState, beneath, names_of}
use Rattle.lj_book.specs.NamedEntries.{named_import_entry}
use Rattle.lj_book.specs.NamedInside.{named_inside_entry}
use Rattle.lj_book.specs.NamedReplies.{named_drop, named_import, named_inside}

-- the entry of a seat's line, where it is accepted
abbrev pub seat_line_entry : NamedState → ℕ → Line → Entry
seat_line_entry s seat (lines.Add a) = named_inside_entry s seat a
seat_line_entry s seat (lines.Delete numbers) = drop_entry (beneath s) seat numbers
seat_line_entry s seat (lines.Import own clause) = named_import_entry s seat own clause

-- whether a seat's line is accepted
abbrev pub accepts_line : NamedState → ℕ → Line → Bool
accepts_line s seat (lines.Add a) = is_ok (named_inside s seat a)
accepts_line s seat (lines.Delete numbers) = is_ok (named_drop s seat numbers)
accepts_line s seat (lines.Import own clause) = is_ok (named_import s seat own clause)

-- A number that the line binds is bound to this joint number.
abbrev pub IsJointOf : NamedState → ℕ → Line → ℕ → Type 0
IsJointOf s seat (lines.Add a) joint = joint ≡ next (beneath s)
IsJointOf s seat (lines.Delete numbers) joint = Unit {0}
IsJointOf s seat (lines.Import own clause) joint =
    import_number (beneath s) (image (names_of s seat) clause) ≡ Some joint
