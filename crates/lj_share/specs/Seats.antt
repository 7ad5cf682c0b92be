-- Seats: the calls whose entries were made through them, and what they see.
use Rattle.std.specs.Prelude.{◌≡◌, ◌<◌, ℕ, zero, suc, ◌+◌, Bool, true, false, List, [], ◌∷◌, ◌++◌, length, All, Option, None, Some, option_map, IfSome}
use Rattle.std.specs.FinMap as fin
use Rattle.std.specs.List.{list_any}
use Rattle.boxcar.specs.Table.{Shelves}
use Rattle.lj_clause.specs.LiteralSet.{LiteralSet}
use Rattle.lj_clause.specs.ClauseMap.{FormulaValue}
use Rattle.lj_book.specs.declared.entry.Call.{Call}
use Rattle.lj_book.specs.declared.entry.Call.TheVariants as calls
use Rattle.lj_book.specs.Tables.{is_here}
use Rattle.lj_book.specs.Solo.{View, without_holdings}
use Rattle.lj_book.specs.Views.{formula_holdings}
use Rattle.lj_book.specs.Named.{NamedState, IsNamedReached}
use Rattle.lj_book.specs.NamedViews.{named_view}
use Rattle.lj_share.specs.Entries.{calls_of}

-- The number of the seat, the calls whose entries were made through it, in order, and what it sees: its own numbers with the joint
-- numbers and the clauses that they are bound to, and nothing once it has left. Clauses, in calls too, speak the seat's variables.
pub record SeatValue : Type 0 where
  pub number : ℕ
  pub calls : List Call
  pub view : View

-- the seat of this number of a book in this state
abbrev pub seat_of_book : NamedState → ℕ → SeatValue
seat_of_book s seat = record
    { number = seat; calls = calls_of seat s.history; view = named_view s seat }

-- the seat of this number of a new book of a formula, through which no entry was made
abbrev pub new_seat : FormulaValue → ℕ → SeatValue
new_seat f number = record { number = number; calls = []; view = Some (formula_holdings f) }

-- the seats of the numbers below this one
abbrev pub new_seats : FormulaValue → ℕ → List SeatValue
new_seats f zero = []
new_seats f (suc n) = new_seats f n ++ new_seat f n ∷ []

-- ---- one entry more

-- the view where the own number is bound to this joint number and clause
abbrev pub with_bound : ℕ → ℕ → LiteralSet → View → View
with_bound own joint clause view = option_map
    (λ h. fin.insert h own (record { joint = joint; clause = clause })) view

-- What a seat sees after a call of its own that was accepted: the number of an addition or an import is bound to its clause, under
-- some joint number, that of an adoption to the joint number, and its clause.
abbrev pub IsViewAfter : Call → View → View → Type 0
IsViewAfter (calls.Add own lemma) before after =
    (joint : ℕ) × (after ≡ with_bound own joint lemma.clause before)
IsViewAfter (calls.Drop numbers) before after = after ≡ option_map (without_holdings numbers) before
IsViewAfter (calls.Adopt own joint) before after =
    (clause : LiteralSet) × (after ≡ with_bound own joint clause before)
IsViewAfter (calls.Import own clause) before after =
    (joint : ℕ) × (after ≡ with_bound own joint clause before)
IsViewAfter calls.Leave before after = after ≡ None

-- The seat after one entry more, of this call.
pub record IsMaking (call : Call) (before after : SeatValue) : Type 0 where
  pub number_is : after.number ≡ before.number
  pub calls_are : after.calls ≡ before.calls ++ call ∷ []
  pub view_is : IsViewAfter call before.view after.view

-- how many entries were made through these seats together
abbrev pub entries_made : List SeatValue → ℕ
entries_made [] = 0
entries_made (s ∷ ss) = length s.calls + entries_made ss

-- Each of these seats is that of its number of a book in this state.
abbrev pub AreSeatsIn : NamedState → List SeatValue → Type 0
AreSeatsIn state seats = All (λ s. seat_of_book state s.number ≡ s) seats

-- ---- leaving

-- whether it is a leave
abbrev pub is_leave : Call → Bool
is_leave calls.Leave = true
is_leave call = false

-- whether a leave is among the calls
abbrev pub has_left : List Call → Bool
has_left made = list_any is_leave made

-- In a state with a legal history, a seat whose calls have no leave among them is there.
abbrev pub HereUntilLeft : Type 0
HereUntilLeft = (s : NamedState) (seat : ℕ) → IsNamedReached s → seat < length s.tables
    → has_left (calls_of seat s.history) ≡ false → is_here s.tables seat ≡ true

-- ---- openings and notes

-- The book is of this formula, has so many seats, and takes so many additions.
pub record IsOpenedAs (formula : FormulaValue) (seats max_steps : ℕ)
    (book : NamedState) : Type 0 where
  pub formula_is : book.formula ≡ formula
  pub seats_are : length book.tables ≡ seats
  pub limit_is : book.max_steps ≡ max_steps

-- What a new opening is made of: the name of its ledger, into how many parts that is cut, the names of its seats' halves, by seat,
-- and the shelves of its log.
pub record OpeningPartsValue : Type 0 where
  pub name : ℕ
  pub parts : ℕ
  pub lists : List ℕ
  pub log : Shelves

-- What a reader's note knows: which book's verdict it is for, by the name of its cell, and the place of the verdict that it has seen.
pub record NoteValue : Type 0 where
  pub cell : ℕ
  pub position : Option ℕ

-- A verdict was seen: it is the one that had been seen before, if one had.
abbrev pub IsSeen : Option ℕ → Option ℕ → Type 0
IsSeen before after = (position : ℕ) × (after ≡ Some position)
    × IfSome before (λ seen. seen ≡ position)
