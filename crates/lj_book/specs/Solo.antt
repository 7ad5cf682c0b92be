-- The solo object of a seat: what the seat may count on, whatever other seats do. It speaks of the seat's own numbers and
-- of the clauses that they were bound to, and never of another seat or of which clauses live.
use Rattle.std.specs.Prelude.{◌≡◌, ◌⊎◌, ℕ, ℤ, ◌-◌, Bool, true, false, not, List, [], ◌∷◌, map, Option, Some, None, option_map, unwrap_or, if◌then◌else◌, Result, Ok, Err}
use Rattle.std.specs.Ordering.{nat_cmp}
use Rattle.std.specs.FinMap as fin
use Rattle.lj_clause.specs.LiteralSet.{LiteralSet, no_literals}
use Rattle.lj_clause.specs.Memory.{no_memory}
use Rattle.lj_clause.specs.Lemma.{LemmaValue}
use Rattle.lj_clause.specs.ClauseMap.{ClauseMap}
use Rattle.lj_clause.specs.Propagation.{Propagation, Closed, Open, Stuck}
use Rattle.lj_text.specs.declared.line.Addition.{Addition}
use Rattle.lj_hint.specs.declared.pair.Pair.{Pair}
use Rattle.lj_hint.specs.Case.{CaseValue, propagation_of}
use Rattle.lj_hint.specs.Receipt.{ReceiptValue}
use Rattle.lj_book.specs.declared.refusal.Refusal.{Refusal}
use Rattle.lj_book.specs.declared.refusal.Refusal.TheVariants.{SeatGone, NumberTaken, HintNotUnit, EmptyOpen, MissingGroup, GroupStuck, GroupOpen, NoSuchClause, Full, NoMemory}
use Rattle.lj_book.specs.declared.event.Event.{Event}
use Rattle.lj_book.specs.declared.event.Event.TheVariants as events
use Rattle.lj_book.specs.declared.event.Reply.{Reply}
use Rattle.lj_book.specs.declared.event.Reply.TheVariants as replies
use Rattle.lj_book.specs.declared.event.Pending.{Pending}
use Rattle.lj_book.specs.declared.event.Pending.TheVariants as pendings
use Rattle.lj_book.specs.Tables.{Table, table_of, is_among}
use Rattle.lj_book.specs.State.{State, given_out}
use Rattle.lj_book.specs.Calls.{case_with, repeated_after, pairs_of, group_pairs_of}
use Rattle.lj_book.specs.Worlds.{IsTried, case_taken, IsNothing, IsTestOf}

-- from own numbers to the joint numbers that they are bound to, with their clauses
abbrev pub Holdings : Type 0
Holdings = fin.FinMap nat_cmp Pair

-- what a seat sees: its holdings, and none where it is gone
abbrev pub View : Type 0
View = Option Holdings

-- A seat's view, and what is pending for it.
pub record Solo : Type 0 where
  pub view : View
  pub pending : Pending

-- ---- takes

-- the case of an addition whose numbers are looked up in the holdings
abbrev pub solo_case : Holdings → ℕ → Addition → Result CaseValue Refusal
solo_case h seat a =
    case_with seat a (repeated_after (λ own. option_map (λ p. p.joint) (fin.get h own)) [] a.groups)
    (pairs_of (fin.get h) a.hints) (group_pairs_of (fin.get h) a.groups)

-- the refusal that a seat with this view is told wherever the own number is to be bound
abbrev pub solo_refusal : View → ℕ → Option Refusal
solo_refusal None own = Some SeatGone
solo_refusal (Some h) own = if fin.contains_key h own then Some NumberTaken else None

-- what a seat with this view is answered to a take
abbrev pub solo_take : View → ℕ → Addition → Result CaseValue Refusal
solo_take None seat a = Err SeatGone
solo_take (Some h) seat a = if fin.contains_key h a.number then Err NumberTaken
    else solo_case h seat a

-- ---- refusals

-- The event is refused with this refusal, and all stays as it was.
abbrev pub IsRefusedSolo : Refusal → Solo → Reply → Solo → Type 0
IsRefusedSolo e before reply after = (reply ≡ replies.Refused e) × (after ≡ before)

-- The event is refused with this refusal, or for want of memory, and all stays as it was.
abbrev pub IsRefusedOrNoMemory : Refusal → Solo → Reply → Solo → Type 0
IsRefusedOrNoMemory e before reply after = ((reply ≡ replies.Refused e)
    ⊎ (reply ≡ replies.Refused (NoMemory no_memory))) × (after ≡ before)

-- Where the seat is gone it is refused so; else the fact of its holdings.
abbrev pub IfHere : View → Solo → Reply → Solo → (Holdings → Type 0) → Type 0
IfHere None before reply after P = IsRefusedSolo SeatGone before reply after
IfHere (Some h) before reply after P = P h

-- where the own number is taken, that is refused; else this holds
abbrev pub IfNotTaken : Bool → Solo → Reply → Solo → Type 0 → Type 0
IfNotTaken true before reply after P = IsRefusedSolo NumberTaken before reply after
IfNotTaken false before reply after P = P

-- Where the seat is gone or its own number is bound it is refused so; else the fact of its holdings.
abbrev pub IfFree : Solo → ℕ → Reply → Solo → (Holdings → Type 0) → Type 0
IfFree before own reply after P =
    IfHere before.view before reply after
    (λ h. IfNotTaken (fin.contains_key h own) before reply after (P h))

-- ---- what is bound and given up

-- the solo object where the own number is bound to the joint number and its clause
abbrev pub with_holding : Solo → Holdings → ℕ → ℕ → LiteralSet → Solo
with_holding o h own joint c = record o
    { view = Some (fin.insert h own (record { joint = joint; clause = c })) }

-- the holdings without these own numbers
abbrev pub without_holdings : List ℕ → Holdings → Holdings
without_holdings numbers h = fin.retain_keys h (λ own. not (is_among numbers own))

-- The lemma is added under the reply's number, which has the lemma's clause, and the own number is bound to it. Else the
-- history is full or memory is short.
abbrev pub IsSoloAddition : ClauseMap → ℕ → LemmaValue → Solo → Holdings → Reply → Solo → Type 0
IsSoloAddition clauses own lemma o h (replies.Added added) after =
    (fin.get clauses added.joint ≡ Some lemma.clause)
    × (after ≡ with_holding o h own added.joint lemma.clause)
IsSoloAddition clauses own lemma o h (replies.Refused Full) after = after ≡ o
IsSoloAddition clauses own lemma o h (replies.Refused (NoMemory _)) after = after ≡ o
IsSoloAddition clauses own lemma o h reply after = ⊥

-- A commit of a receipt by a seat that is there, to whose holdings the receipt's own number is new: it is an addition. In
-- no case is the receipt pending any more.
abbrev pub IsSoloCommitOf : ClauseMap → View → Solo → ReceiptValue → Reply → Solo → Type 0
IsSoloCommitOf clauses None o r reply after = ⊥
IsSoloCommitOf clauses (Some h) o r reply after =
    (fin.contains_key h r.own ≡ false) × IsSoloAddition clauses r.own r.lemma o h reply after

-- a commit, as a seat alone sees it: of what is pending, if that is a receipt
abbrev pub IsSoloCommit : ClauseMap → Pending → Solo → Reply → Solo → Type 0
IsSoloCommit clauses pendings.Nothing o reply after = IsNothing o reply after
IsSoloCommit clauses (pendings.Case c) o reply after = IsNothing o reply after
IsSoloCommit clauses (pendings.Receipt r) o reply after = IsSoloCommitOf clauses o.view
    (record o { pending = pendings.Nothing }) r reply after

-- An addition that its first list of hints leaves open: others' clauses too decide whether it is added.
abbrev pub IsSoloOpen : ClauseMap → ℕ → LemmaValue → Solo → Holdings → Reply → Solo → Type 0
IsSoloOpen clauses own lemma o h (replies.Refused (MissingGroup joint)) after = after ≡ o
IsSoloOpen clauses own lemma o h (replies.Refused (GroupStuck joint place)) after = after ≡ o
IsSoloOpen clauses own lemma o h (replies.Refused (GroupOpen joint)) after = after ≡ o
IsSoloOpen clauses own lemma o h reply after = IsSoloAddition clauses own lemma o h reply after

-- the same, where a lemma without a pivot is refused
abbrev pub IfPivot : Option ℤ → ClauseMap → ℕ → LemmaValue → Solo → Holdings → Reply → Solo → Type 0
IfPivot None clauses own lemma o h reply after = IsRefusedOrNoMemory EmptyOpen o reply after
IfPivot (Some pivot) clauses own lemma o h reply after = IsSoloOpen clauses own lemma o h reply
    after

-- An addition whose propagation over its first list of hints ends so: it is added where that closes.
abbrev pub IsSoloPropagated : Propagation → ClauseMap → ℕ → LemmaValue → Solo → Holdings → Reply
    → Solo
    → Type 0
IsSoloPropagated (Closed used) clauses own lemma o h reply after = IsSoloAddition clauses own lemma
    o h
    reply after
IsSoloPropagated (Open a) clauses own lemma o h reply after = IfPivot lemma.pivot clauses own lemma
    o h
    reply after
IsSoloPropagated (Stuck place) clauses own lemma o h reply after = IsRefusedOrNoMemory
    (HintNotUnit place)
    o reply after

-- The refusals of the case's numbers, then what propagation over its hints leads to.
abbrev pub IsSoloInside : Result CaseValue Refusal → ClauseMap → Solo → Holdings → Reply → Solo
    → Type 0
IsSoloInside (Ok c) clauses o h reply after = IsSoloPropagated (propagation_of c) clauses c.own
    c.lemma o h
    reply after
IsSoloInside (Err e) clauses o h reply after = IsRefusedOrNoMemory e o reply after

-- The count of a drop is that of the seat's own numbers among these.
abbrev pub IsSoloDrop : List ℕ → Solo → Holdings → Reply → Solo → Type 0
IsSoloDrop numbers o h (replies.Dropped dropped) after =
    (dropped.count ≡ fin.len h - fin.len (without_holdings numbers h))
    × (after ≡ record o { view = Some (without_holdings numbers h) })
IsSoloDrop numbers o h (replies.Refused (NoMemory _)) after = after ≡ o
IsSoloDrop numbers o h reply after = ⊥

-- The own number is bound to the joint number that the event names and that number's one clause.
abbrev pub IsSoloAdoption : ClauseMap → ℕ → ℕ → Solo → Holdings → Reply → Solo → Type 0
IsSoloAdoption clauses own joint o h (replies.Adopted place) after =
    (c : LiteralSet) × ((fin.get clauses joint ≡ Some c) × (after ≡ with_holding o h own joint c))
IsSoloAdoption clauses own joint o h (replies.Refused NoSuchClause) after = after ≡ o
IsSoloAdoption clauses own joint o h (replies.Refused (NoMemory _)) after = after ≡ o
IsSoloAdoption clauses own joint o h reply after = ⊥

-- The own number is bound to the reply's number, which has the clause that the event names. Else nothing is found, the
-- history is full, or memory is short.
abbrev pub IsSoloImport : ClauseMap → ℕ → LiteralSet → Solo → Holdings → Reply → Solo → Type 0
IsSoloImport clauses own c o h (replies.Imported imported) after =
    (fin.get clauses imported.joint ≡ Some c) × (after ≡ with_holding o h own imported.joint c)
IsSoloImport clauses own c o h (replies.Refused NoSuchClause) after = after ≡ o
IsSoloImport clauses own c o h (replies.Refused Full) after = after ≡ o
IsSoloImport clauses own c o h (replies.Refused (NoMemory _)) after = after ≡ o
IsSoloImport clauses own c o h reply after = ⊥

-- a leave, as a seat alone sees it
abbrev pub IsSoloLeave : Solo → Reply → Solo → Type 0
IsSoloLeave o (replies.Left place) after = after ≡ record o { view = None }
IsSoloLeave o (replies.Refused (NoMemory _)) after = after ≡ o
IsSoloLeave o reply after = ⊥

-- ---- all events

-- The event of the seat has this reply by what the seat sees, and leaves the other. The clause map has the one clause
-- that each joint number ever stands for.
abbrev pub IsSoloAnswer : ClauseMap → ℕ → Solo → Event → Reply → Solo → Type 0
IsSoloAnswer clauses seat o (events.Take _ a) reply after =
    IsTried (solo_refusal o.view a.number) (solo_take o.view seat a) (λ _. replies.Taken)
    (λ answer. record o { pending = case_taken answer }) reply after
IsSoloAnswer clauses seat o (events.Test _) reply after = IsTestOf o.pending o
    (λ p. record o { pending = p }) reply after
IsSoloAnswer clauses seat o (events.Commit _) reply after = IsSoloCommit clauses o.pending o reply
    after
IsSoloAnswer clauses seat o (events.Inside _ a) reply after =
    IfFree o a.number reply after (λ h. IsSoloInside (solo_case h seat a) clauses o h reply after)
IsSoloAnswer clauses seat o (events.Drop _ numbers) reply after = IfHere o.view o reply after
    (λ h. IsSoloDrop numbers o h reply after)
IsSoloAnswer clauses seat o (events.Adopt _ own joint) reply after =
    IfFree o own reply after (λ h. IsSoloAdoption clauses own joint o h reply after)
IsSoloAnswer clauses seat o (events.Import _ own c) reply after =
    IfFree o own reply after (λ h. IsSoloImport clauses own c o h reply after)
IsSoloAnswer clauses seat o (events.Leave _) reply after = IfHere o.view o reply after
    (λ h. IsSoloLeave o reply after)

-- Each event of the seat has its reply where those before it lead, and the last leads to the end.
abbrev pub IsSoloRun : ClauseMap → ℕ → Solo → List (Event × Reply) → Solo → Type 0
IsSoloRun clauses seat o [] end = end ≡ o
IsSoloRun clauses seat o (e ∷ es) end = (after : Solo)
    × (IsSoloAnswer clauses seat o e.0 e.1 after × IsSoloRun clauses seat after es end)

-- ---- the view that a state gives a seat

-- a joint number with its clause; each that is bound has one
abbrev pub with_clause : ClauseMap → ℕ → Pair
with_clause clauses joint = record
    { joint = joint; clause = unwrap_or (fin.get clauses joint) no_literals }

-- the pairs of number and clause that a table binds
abbrev pub holdings_of : ClauseMap → Table → Holdings
holdings_of clauses t = fin.from_entries (map (λ e. (e.0, with_clause clauses e.1)) (fin.entries t))

-- the seat's own numbers, each with its joint number and the clause that was given out under that
abbrev pub view_of : State → ℕ → View
view_of s seat = option_map (holdings_of (given_out s)) (table_of s.tables seat)
