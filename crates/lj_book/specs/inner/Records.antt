-- The entries of a history as words and literals, and how they are read again.
use Rattle.std.specs.Prelude.{◌≡◌, Bool, true, false, ℕ, ◌+◌, ◌*◌, ◌%◌, ◌/◌, ◌<◌, ◌≤◌, ◌==◌, ℤ, List, [], ◌∷◌, ◌++◌, map, length, take, drop, Option, Some, None, if◌then◌else◌}
use Rattle.std.specs.List.{AllByRecursion}
use Rattle.lj_clause.specs.LiteralSet.{LiteralSet, literals, from_literals}
use Rattle.lj_clause.specs.Lemma.{LemmaValue, lemma_of}
use Rattle.lj_text.specs.declared.line.Addition.{Addition}
use Rattle.lj_text.specs.declared.step.Step.{Step}
use Rattle.lj_text.specs.declared.step.Step.TheVariants as steps
use Rattle.lj_text.specs.Needed.{if_some}
use Rattle.lj_book.specs.declared.entry.Call.{Call}
use Rattle.lj_book.specs.declared.entry.Call.TheVariants as calls
use Rattle.lj_book.specs.declared.entry.Entry.{Entry}
use Rattle.lj_book.specs.inner.Encoding.{number_encoding, list_encoding, hint_groups_encoding, groups_numbers, number_in, list_in, hint_groups_in}

-- the literals of a lemma: its pivot, and then those of its clause
abbrev pub pivot_before : Option ℤ → List ℤ → List ℤ
pivot_before None ls = ls
pivot_before (Some p) ls = p ∷ ls

abbrev pub lemma_lits : LemmaValue → List ℤ
lemma_lits lemma = pivot_before lemma.pivot (literals lemma.clause)

-- so many literals from a place on
abbrev pub some_lits : List ℤ → ℕ → ℕ → List ℤ
some_lits lits at count = take count (drop at lits)

-- the number of a seat's entry: its lowest three bits say what was called
abbrev pub addition_kind : ℕ
addition_kind = 0

abbrev pub drop_kind : ℕ
drop_kind = 1

abbrev pub adopt_kind : ℕ
adopt_kind = 2

abbrev pub import_kind : ℕ
import_kind = 3

abbrev pub leave_kind : ℕ
leave_kind = 4

-- that of an import by a part of its clause
abbrev pub part_kind : ℕ
part_kind = 5

-- the kind of a call by which a lemma enters: an import, or an addition
abbrev pub entering_kind : Bool → ℕ
entering_kind true = part_kind
entering_kind false = addition_kind

abbrev pub head_encoding : ℕ → ℕ → List ℕ
head_encoding seat kind = number_encoding (8 * seat + kind)

-- the words of a seat's call of this kind by which a lemma enters, whose literals begin at this place
abbrev pub add_encoding : ℕ → ℕ → ℕ → Addition → ℕ → List ℕ
add_encoding kind seat own a at =
    head_encoding seat kind ++ (number_encoding own ++
    (number_encoding a.number ++ (number_encoding at
    ++ (number_encoding (length (lemma_lits a.lemma)) ++
    (list_encoding a.hints ++ hint_groups_encoding a.groups)))))

-- the words of own numbers that were given up, and of the joint numbers that died
abbrev pub drop_encoding : ℕ → List ℕ → List ℕ → List ℕ
drop_encoding seat given died = head_encoding seat drop_kind ++
    (list_encoding given ++ list_encoding died)

abbrev pub adopt_encoding : ℕ → ℕ → ℕ → List ℕ
adopt_encoding seat own joint = head_encoding seat adopt_kind ++
    (number_encoding own ++ number_encoding joint)

abbrev pub import_encoding : ℕ → ℕ → LiteralSet → ℕ → List ℕ
import_encoding seat own clause at =
    head_encoding seat import_kind ++ (number_encoding own ++ (number_encoding at
    ++ number_encoding (length (literals clause))))

abbrev pub leave_encoding : ℕ → List ℕ → List ℕ
leave_encoding seat died = head_encoding seat leave_kind ++ list_encoding died

-- the literals that words name by their place and their number, and the words behind these
abbrev pub lits_in : List ℤ → List ℕ → List ℤ
lits_in lits ws = some_lits lits (number_in ws).0 (number_in (number_in ws).1).0

abbrev pub behind_lits : List ℕ → List ℕ
behind_lits ws = (number_in (number_in ws).1).1

-- the addition behind its own number
abbrev pub addition_in : List ℤ → List ℕ → Addition
addition_in lits ws = record {
  number = (number_in ws).0;
  lemma = lemma_of (lits_in lits (number_in ws).1);
  hints = (list_in (behind_lits (number_in ws).1)).0;
  groups = (hint_groups_in (list_in (behind_lits (number_in ws).1)).1).0;
}

-- the call and the step of a kind behind their first number
abbrev pub call_in : List ℤ → ℕ → List ℕ → Call
call_in lits kind ws =
    if kind == addition_kind then calls.Add (number_in ws).0 (addition_in lits (number_in ws).1).lemma
    else if kind == drop_kind then calls.Drop (list_in ws).0
    else if kind == adopt_kind then calls.Adopt (number_in ws).0 (number_in (number_in ws).1).0
    else if kind == import_kind then calls.Import (number_in ws).0 (from_literals (lits_in lits (number_in ws).1))
    else if kind == part_kind then calls.Import (number_in ws).0 (addition_in lits (number_in ws).1).lemma.clause
    else calls.Leave

abbrev pub step_in : List ℤ → ℕ → List ℕ → Option Step
step_in lits kind ws =
    if kind == addition_kind then Some (steps.Add (addition_in lits (number_in ws).1))
    else if kind == drop_kind then if_some (list_in (list_in ws).1).0
    else if kind == adopt_kind then None
    else if kind == import_kind then None
    else if kind == part_kind then Some (steps.Add (addition_in lits (number_in ws).1))
    else if_some (list_in ws).0

-- the parts of the first number of an entry
abbrev pub seat_in : ℕ → ℕ
seat_in head = head / 8

abbrev pub kind_in : ℕ → ℕ
kind_in head = head % 8

-- the entry whose words these begin with
abbrev pub entry_in : List ℤ → List ℕ → Entry
entry_in lits ws = record {
  seat = seat_in (number_in ws).0;
  call = call_in lits (kind_in (number_in ws).0) (number_in ws).1;
  step = step_in lits (kind_in (number_in ws).0) (number_in ws).1;
}

-- the entry of a seat's call with this step
abbrev pub entry_of : ℕ → Call → Option Step → Entry
entry_of seat call step = record { seat = seat; call = call; step = step }

-- the call that binds an own number to a joint number: an import where there is a clause
abbrev pub binding_call : ℕ → ℕ → Option LiteralSet → Call
binding_call own joint None = calls.Adopt own joint
binding_call own joint (Some clause) = calls.Import own clause

-- the call by which a lemma enters: an import of its clause, or its addition
abbrev pub entering_call : Bool → ℕ → LemmaValue → Call
entering_call true own lemma = calls.Import own lemma.clause
entering_call false own lemma = calls.Add own lemma

-- the entry of that call, with the step that adds the lemma
abbrev pub entering_entry : Bool → ℕ → ℕ → Addition → Entry
entering_entry is_import seat own a = entry_of seat (entering_call is_import own a.lemma)
    (Some (steps.Add a))

-- the literals that the words of a kind name
abbrev pub named_in : List ℤ → ℕ → List ℕ → List ℤ
named_in lits kind ws =
    if kind == addition_kind then lits_in lits (number_in (number_in ws).1).1
    else if kind == import_kind then lits_in lits (number_in ws).1
    else if kind == part_kind then lits_in lits (number_in (number_in ws).1).1
    else []

-- the entry, and the literals that its words name
abbrev pub read_in : List ℤ → List ℕ → Entry × List ℤ
read_in lits ws = (entry_in lits ws, named_in lits (kind_in (number_in ws).0) (number_in ws).1)

-- the literals that a binding's entry is kept by
abbrev pub binding_lits : Option LiteralSet → List ℤ
binding_lits None = []
binding_lits (Some clause) = literals clause

-- the literals that an import is kept by: those of its clause, or of the lemma that it adds
abbrev pub import_lits : LiteralSet → Option Step → List ℤ
import_lits clause None = literals clause
import_lits clause (Some (steps.Add a)) = lemma_lits a.lemma
import_lits clause (Some (steps.Delete numbers)) = literals clause

-- the literals that a call with its step is kept by
abbrev pub call_lits : Call → Option Step → List ℤ
call_lits (calls.Add own lemma) step = lemma_lits lemma
call_lits (calls.Drop numbers) step = []
call_lits (calls.Adopt own joint) step = []
call_lits (calls.Import own clause) step = import_lits clause step
call_lits calls.Leave step = []

-- the literals that an entry is kept by
abbrev pub entry_lits : Entry → List ℤ
entry_lits e = call_lits e.call e.step

-- From this place on stand the words of an entry, whatever stands behind them, with the literals that it is kept by.
pub record IsWritten (lits : List ℤ) (encoding : List ℕ) (start : ℕ) : Type 0 where
  pub within : start ≤ length encoding
  pub whole : (more : List ℤ) (behind : List ℕ)
      → read_in (lits ++ more) (drop start encoding ++ behind) ≡ read_in lits (drop start encoding)
  pub named : (read_in lits (drop start encoding)).1
      ≡ entry_lits (read_in lits (drop start encoding)).0
  pub seated : (entry_in lits (drop start encoding)).seat < 4294967296

-- Each entry stands where it begins.
abbrev pub AreWritten : List ℤ → List ℕ → List ℕ → Type 0
AreWritten lits encoding starts = AllByRecursion (IsWritten lits encoding) starts

abbrev pub entries_in : List ℤ → List ℕ → List ℕ → List Entry
entries_in lits encoding starts = map (λ start. entry_in lits (drop start encoding)) starts

-- how many numbers stand in the words of an addition
abbrev pub addition_numbers : Addition → ℕ
addition_numbers a = 7 + length a.hints + groups_numbers a.groups

-- The entries, the literals that they name or that stood there before them, and how many more words, literals and
-- entries have room.
pub record Entries : Type 0 where
  pub entries : List Entry
  pub lits : List ℤ
  pub encoding_capacity : ℕ
  pub lit_capacity : ℕ
  pub entry_capacity : ℕ
