-- Why a call of a seat is refused.
use Rattle.std.specs.Prelude.{◌≡◌, ℕ, ◌⊎◌, Option, Some, None, IfSome, Result, MatchResult}
use Rattle.lj_clause.specs.ClauseMap.{FormulaValue}
use Rattle.lj_text.specs.declared.line.Line.{Line}
use Rattle.lj_text.specs.declared.line.Line.TheVariants as lines
use Rattle.lj_book.specs.declared.refusal.Refusal.{Refusal}
use Rattle.lj_book.specs.declared.refusal.Refusal.TheVariants.{SeatGone, EmptyOpen, MissingGroup, GroupStuck, GroupOpen, PrivateVariable, NoSuchClause, Full, NoVariableLeft, NoMemory}
use Rattle.lj_book.specs.Calls.{IsRefusal}
use Rattle.lj_book.specs.Solo.{View, solo_refusal}
use Rattle.lj_book.specs.Views.{decided_refusal}
use Rattle.lj_book.specs.Named.{NamedState, IsNamedReached}
use Rattle.lj_book.specs.NamedReplies.{named_drop, named_import, named_inside}
use Rattle.lj_share.specs.Seats.{SeatValue, seat_of_book, IsOpenedAs}

-- There is a state in which this holds. It is that of a book of this formula, with so many seats and this limit of additions. Its history
-- is legal, and the seat is that of its number there: it has just the calls whose entries were made through it, and sees what the book
-- has of it.
pub record HoldsInAState (formula : FormulaValue) (seats max_steps : ℕ) (seat : SeatValue)
    (holds : NamedState → Type 0) : Type 0 where
  pub state : NamedState
  pub opened : IsOpenedAs formula seats max_steps state
  pub legal : IsNamedReached state
  pub seat_is : seat_of_book state seat.number ≡ seat
  pub holds_there : holds state

-- in such a state the call's reply is this refusal; of the want of memory only that there is one
abbrev pub IsRefusedAt : {A : Type 0} → FormulaValue → ℕ → ℕ → SeatValue
    → (NamedState → Result A Refusal) → Refusal → Type 0
IsRefusedAt formula seats max_steps seat reply e = HoldsInAState formula seats max_steps seat
    (λ s. IsRefusal e (reply s))

-- the seat's line is refused so in this state
abbrev pub IsRefusedLine : ℕ → Line → Refusal → NamedState → Type 0
IsRefusedLine seat (lines.Add a) e s = IsRefusal e (named_inside s seat a)
IsRefusedLine seat (lines.Delete numbers) e s = IsRefusal e (named_drop s seat numbers)
IsRefusedLine seat (lines.Import own clause) e s = IsRefusal e (named_import s seat own clause)

-- whether a seat with this view is there
abbrev pub gone_refusal : View → Option Refusal
gone_refusal None = Some SeatGone
gone_refusal (Some h) = None

-- the refusal of a line that what the seat sees decides, whatever other clauses live
abbrev pub line_refusal : SeatValue → Line → Option Refusal
line_refusal seat (lines.Add a) = decided_refusal seat.view seat.number a
line_refusal seat (lines.Delete numbers) = gone_refusal seat.view
line_refusal seat (lines.Import own clause) = solo_refusal seat.view own

-- The refusal is this one; memory may be short in its place.
abbrev pub IsDecided : Option Refusal → Refusal → Type 0
IsDecided decided (NoMemory e) = Unit {0}
IsDecided decided e = decided ≡ Some e

-- Where a refusal is decided, the answer is that one; memory may be short in its place.
abbrev pub IsToldIfDecided : {A : Type 0} → Option Refusal → Result A Refusal → Type 0
IsToldIfDecided decided answer = IfSome decided (λ e. MatchResult answer (λ _. ⊥)
    (IsDecided (Some e)))

-- memory is short
abbrev pub IsWantOfMemory : Refusal → Type 0
IsWantOfMemory (NoMemory e) = Unit {0}
IsWantOfMemory e = ⊥

-- the addition isn't RAT by its groups, the history is full, no joint variable is left, or memory is short
abbrev pub IsRatOrFull : Refusal → Type 0
IsRatOrFull EmptyOpen = Unit {0}
IsRatOrFull (MissingGroup joint) = Unit {0}
IsRatOrFull (GroupStuck joint position) = Unit {0}
IsRatOrFull (GroupOpen joint) = Unit {0}
IsRatOrFull Full = Unit {0}
IsRatOrFull NoVariableLeft = Unit {0}
IsRatOrFull e = IsWantOfMemory e

-- the clause has a variable that the seat was not given, no part of it lives, the history is full, or memory is short
abbrev pub IsNotFound : Refusal → Type 0
IsNotFound PrivateVariable = Unit {0}
IsNotFound NoSuchClause = Unit {0}
IsNotFound Full = Unit {0}
IsNotFound e = IsWantOfMemory e

-- how a line can be refused where what the seat sees decides no refusal
abbrev pub IsOpenRefusal : Line → Refusal → Type 0
IsOpenRefusal (lines.Add a) e = IsRatOrFull e
IsOpenRefusal (lines.Delete numbers) e = IsWantOfMemory e
IsOpenRefusal (lines.Import own clause) e = IsNotFound e

-- in such a state the reply to the seat's line is this refusal, or what the seat sees decides it so
abbrev pub IsLineRefused : FormulaValue → ℕ → ℕ → SeatValue → Line → Refusal → Type 0
IsLineRefused formula seats max_steps seat line e = HoldsInAState formula seats max_steps seat
    (IsRefusedLine seat.number line e) ⊎ IsDecided (line_refusal seat line) e

-- in such a state the reply to a call that binds this own number is this refusal, or what the seat sees decides it so
abbrev pub IsBindingRefused : {A : Type 0} → FormulaValue → ℕ → ℕ → SeatValue → ℕ
    → (NamedState → Result A Refusal) → Refusal → Type 0
IsBindingRefused formula seats max_steps seat own reply e =
    IsRefusedAt formula seats max_steps seat reply e ⊎ IsDecided (solo_refusal seat.view own) e
