-- What the lock keeps, and what a seat keeps of what it sees.
use Rattle.std.specs.Prelude.{◌≡◌, ◌==◌, ◌-◌, ℕ, nat_lt, Bool, true, false, if◌then◌else◌, List, [], length, Result, Option, None, Some, slice_get, IsSome, is_some, option_map, map}
use Rattle.std.specs.FinMap as fin
use Rattle.lj_clause.specs.LiteralSet.{LiteralSet}
use Rattle.lj_clause.specs.ClauseMap.{ClauseMap, FormulaValue, formula_map}
use Rattle.lj_book.specs.Tables.{is_among}
use Rattle.lj_hint.specs.declared.pair.Pair.{Pair}
use Rattle.lj_book.specs.declared.refusal.Refusal.{Refusal}
use Rattle.lj_book.specs.declared.refusal.Refusal.TheVariants.{SeatGone, NumberTaken}
use Rattle.lj_book.specs.Solo.{View, without_holdings}
use Rattle.lj_book.specs.Views.{IsClosedAlone}
use Rattle.lj_text.specs.declared.line.Addition.{Addition}
use Rattle.lj_hint.specs.Case.{CaseValue}
use Rattle.lj_book.specs.Calls.{case_with, repeated_after, pairs_of, group_pairs_of}
use Rattle.lj_book.specs.Named.{NamedState}
use Rattle.lj_text.specs.declared.line.Line.{Line}
use Rattle.lj_text.specs.declared.line.Line.TheVariants as lines
use Rattle.lj_share.specs.declared.seat.Unlocked.{Unlocked}
use Rattle.lj_share.specs.declared.seat.Unlocked.TheVariants.{Closed, Open}
use Rattle.lj_share.specs.Seats.{SeatValue, seat_of_book, IsOpenedAs, with_bound}
use Rattle.lj_share.specs.Refusals.{HoldsInAState}
use Rattle.lj_share.specs.inner.Bindings.{BindingsValue, bound_at}

-- What the copies show, one for each seat, are the seats of a book in this state.
abbrev pub AreShown : NamedState → List SeatValue → Type 0
AreShown state shown = (seat : ℕ) (value : SeatValue) → slice_get shown seat ≡ Some value
    → value ≡ seat_of_book state seat

-- What the lock keeps: the book is that of the opening, the total of its ledger is the number of entries, all of the ledger
-- is with the seats, and the copies show the book's seats.
pub record IsLockedBook (formula : FormulaValue) (seats max_steps : ℕ) (book : NamedState)
    (shown : List SeatValue) (total parts amount : ℕ) : Type 0 where
  pub opened : IsOpenedAs formula seats max_steps book
  pub counted : length book.history ≡ total
  pub no_part : parts ≡ 0
  pub no_amount : amount ≡ 0
  pub are_shown : AreShown book shown

-- There is a state of the opening's book in which the seat is this one.
abbrev pub IsSeatOf : FormulaValue → ℕ → ℕ → SeatValue → Type 0
IsSeatOf formula seats max_steps seat = HoldsInAState formula seats max_steps seat (λ s. Unit {0})

-- ---- what a seat sees of clauses

-- the clause that an own number is bound to
abbrev pub clause_seen : View → ℕ → Option LiteralSet
clause_seen None own = None
clause_seen (Some h) own = option_map (λ p. p.clause) (fin.get h own)

-- the clauses that own numbers are bound to
abbrev pub clauses_seen : View → ClauseMap
clauses_seen None = fin.empty
clauses_seen (Some h) = fin.from_entries (map (λ e. (e.0, e.1.clause)) (fin.entries h))

-- ---- what a seat keeps

-- Which numbers of the opening a seat gave up or bound anew, and what it bound numbers of the opening and those behind them to, which
-- are counted from there.
pub record OwnValue : Type 0 where
  pub given_up : List Bool
  pub rebound : BindingsValue
  pub late : BindingsValue

-- the clause of the formula that has this number, which is its joint number
abbrev pub first_pair : FormulaValue → ℕ → Option Pair
first_pair f own = option_map (λ c. record { joint = own; clause = c }) (fin.get (formula_map f) own)

-- what a number of the opening is bound to: what it was bound to there, unless it was given up since, or bound anew
abbrev pub early_pair : Option Pair → Option Bool → Option Pair → Option Pair
early_pair later (Some false) first = first
early_pair later (Some true) first = later
early_pair later None first = later

-- what an own number is bound to
abbrev pub own_pair : FormulaValue → OwnValue → ℕ → Option Pair
own_pair f o own =
    if nat_lt own (length o.given_up) then
    early_pair (bound_at o.rebound own) (slice_get o.given_up own) (first_pair f own)
    else bound_at o.late (own - length o.given_up)

-- the clause of an own number
abbrev pub own_clause : FormulaValue → OwnValue → ℕ → Option LiteralSet
own_clause f o own = option_map (λ p. p.clause) (own_pair f o own)

-- What is kept is as before.
abbrev pub AreSamePairs : OwnValue → OwnValue → Type 0
AreSamePairs before after = (f : FormulaValue) (n : ℕ) → own_pair f after n ≡ own_pair f before n

-- What is kept is as before, but for this number, which is bound to this, or to nothing.
abbrev pub IsUpdated : OwnValue → ℕ → Option Pair → OwnValue → Type 0
IsUpdated before own pair after = (f : FormulaValue) (n : ℕ)
    → own_pair f after n ≡ (if n == own then pair else own_pair f before n)

-- Where this number was bound under the joint number 0, it is bound to the same clause under this joint number, and the rest is as
-- before.
abbrev pub IsJointSet : OwnValue → ℕ → ℕ → OwnValue → Type 0
IsJointSet before own joint after = (f : FormulaValue) (c : LiteralSet)
    → own_pair f before own ≡ Some (record { joint = 0; clause = c }) → (n : ℕ)
    → own_pair f after n ≡ (if n == own then Some (record { joint = joint; clause = c })
    else own_pair f before n)

-- What is kept is as before, but for these numbers, which are bound to nothing.
abbrev pub AreGivenUp : List ℕ → OwnValue → OwnValue → Type 0
AreGivenUp numbers before after = (f : FormulaValue) (n : ℕ)
    → own_pair f after n ≡ (if is_among numbers n then None else own_pair f before n)

-- ---- what a seat keeps, and what it sees

-- What own numbers are bound to.
abbrev pub Pairs : Type 0
Pairs = ℕ → Option Pair

-- what own numbers are bound to by what is kept
abbrev pub pairs_kept : FormulaValue → Option OwnValue → Pairs
pairs_kept f None n = None
pairs_kept f (Some o) n = own_pair f o n

-- what own numbers are bound to by what a seat sees
abbrev pub pairs_seen : View → Pairs
pairs_seen None n = None
pairs_seen (Some h) n = fin.get h n

-- The same numbers are bound to the same.
abbrev pub AreEqual : Pairs → Pairs → Type 0
AreEqual p q = (n : ℕ) → p n ≡ q n

-- what numbers are bound to, where this one is bound to this, or to nothing
abbrev pub with_pair_at : ℕ → Option Pair → Pairs → Pairs
with_pair_at own pair p n = if n == own then pair else p n

-- what numbers are bound to, where these are bound to nothing
abbrev pub without_pairs : List ℕ → Pairs → Pairs
without_pairs numbers p n = if is_among numbers n then None else p n

-- What is kept is what the seat sees, and it is kept while the seat is there.
abbrev pub IsOwnOf : FormulaValue → Option OwnValue → View → Type 0
IsOwnOf f kept view = (is_some kept ≡ is_some view) × AreEqual (pairs_kept f kept) (pairs_seen view)

-- Something is kept if it was before, and by it numbers are bound to this.
abbrev pub IsKeptAs : FormulaValue → Option OwnValue → Pairs → Option OwnValue → Type 0
IsKeptAs f before p after = (is_some after ≡ is_some before) × AreEqual (pairs_kept f after) p

-- the joint numbers that own numbers are bound to
abbrev pub joint_by : Pairs → ℕ → Option ℕ
joint_by p own = option_map (λ q. q.joint) (p own)

-- the case of an addition whose numbers are bound so
abbrev pub case_by : Pairs → ℕ → Addition → Result CaseValue Refusal
case_by p seat a = case_with seat a (repeated_after (joint_by p) [] a.groups) (pairs_of p a.hints)
    (group_pairs_of p a.groups)

-- ---- lines on their way

-- what numbers are bound to ahead of a line: one that it binds is bound under the joint number 0
abbrev pub begun : Line → Pairs → Pairs
begun (lines.Add a) p = with_pair_at a.number (Some (record { joint = 0; clause = a.lemma.clause })) p
begun (lines.Delete numbers) p = p
begun (lines.Import own c) p = with_pair_at own (Some (record { joint = 0; clause = c })) p

-- what numbers are bound to behind a line, where one that it binds is bound under this joint number
abbrev pub finished : Line → ℕ → Pairs → Pairs
finished (lines.Add a) joint p = with_pair_at a.number
    (Some (record { joint = joint; clause = a.lemma.clause })) p
finished (lines.Delete numbers) joint p = without_pairs numbers p
finished (lines.Import own c) joint p = with_pair_at own (Some (record { joint = joint; clause = c })) p

-- what a seat sees behind a line, where a number that it binds is bound under this joint number
abbrev pub view_behind : Line → ℕ → View → View
view_behind (lines.Add a) joint view = with_bound a.number joint a.lemma.clause view
view_behind (lines.Delete numbers) joint view = option_map (without_holdings numbers) view
view_behind (lines.Import own c) joint view = with_bound own joint c view

-- A number that the line binds is bound to nothing.
abbrev pub IsFresh : Line → Pairs → Type 0
IsFresh (lines.Add a) p = p a.number ≡ None
IsFresh (lines.Delete numbers) p = Unit {0}
IsFresh (lines.Import own c) p = p own ≡ None

-- The seat is there, a number that the line binds was free, and is bound ahead.
abbrev pub IsLineBegun : FormulaValue → Line → Option OwnValue → Option OwnValue → Type 0
IsLineBegun f line before after = IsSome before × IsFresh line (pairs_kept f before)
    × IsKeptAs f before (begun line (pairs_kept f before)) after

-- A number that the line binds is bound to its clause under the joint number 0.
abbrev pub IsBoundAhead : Line → Pairs → Type 0
IsBoundAhead (lines.Add a) p = p a.number ≡ Some (record { joint = 0; clause = a.lemma.clause })
IsBoundAhead (lines.Delete numbers) p = Unit {0}
IsBoundAhead (lines.Import own c) p = p own ≡ Some (record { joint = 0; clause = c })

-- What is kept follows a line that was begun and is entered, where a number that it binds has this joint number.
abbrev pub IsFinished : Line → ℕ → Option OwnValue → Option OwnValue → Type 0
IsFinished line joint before after = (f : FormulaValue) → IsBoundAhead line (pairs_kept f before)
    → IsKeptAs f before (finished line joint (pairs_kept f before)) after

-- what numbers are bound to, where one that the line binds is bound to nothing
abbrev pub taken_back : Line → Pairs → Pairs
taken_back (lines.Add a) p = with_pair_at a.number None p
taken_back (lines.Delete numbers) p = p
taken_back (lines.Import own c) p = with_pair_at own None p

-- What is kept has a line taken back that was begun and isn't entered.
abbrev pub IsTakenBack : Line → Option OwnValue → Option OwnValue → Type 0
IsTakenBack line before after = (f : FormulaValue)
    → IsKeptAs f before (taken_back line (pairs_kept f before)) after

-- the refusal of a call that binds an own number, as what is kept decides it
abbrev pub kept_refusal : FormulaValue → Option OwnValue → ℕ → Option Refusal
kept_refusal f None own = Some SeatGone
kept_refusal f (Some o) own = if is_some (own_pair f o own) then Some NumberTaken else None

-- the same, of a line by its own number alone
abbrev pub number_refusal : FormulaValue → Option OwnValue → Line → Option Refusal
number_refusal f kept (lines.Add a) = kept_refusal f kept a.number
number_refusal f None (lines.Delete numbers) = Some SeatGone
number_refusal f (Some o) (lines.Delete numbers) = None
number_refusal f kept (lines.Import own c) = kept_refusal f kept own

-- ---- tests

-- what holds of the hints that were read, where the propagation closed
abbrev pub IfClosed : Unlocked → (ℕ → Type 0) → Type 0
IfClosed (Closed read) P = P read
IfClosed Open P = Unit {0}

-- The test of a line of the seat with this view came to this end. Only an addition is tested.
abbrev pub IsTestedAs : View → ℕ → Line → Unlocked → Type 0
IsTestedAs view seat (lines.Add a) unlocked = IfClosed unlocked (IsClosedAlone view seat a)
IsTestedAs view seat (lines.Delete numbers) unlocked = Unit {0}
IsTestedAs view seat (lines.Import own clause) unlocked = Unit {0}
