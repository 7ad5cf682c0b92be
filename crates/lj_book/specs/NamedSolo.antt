-- What a seat that names variables as it likes may count on, whatever other seats do: the solo object, in the seat's own variables.
use Rattle.std.specs.Prelude.{◌≡◌, ◌==◌, ◌++◌, ℕ, true, false, List, [], ◌∷◌, length, map, Some, slice_get, IfSome}
use Rattle.lj_clause.specs.Literal.{variable_of}
use Rattle.lj_clause.specs.Lemma.{LemmaValue, IsLemma}
use Rattle.lj_clause.specs.ClauseMap.{ClauseMap, IsFormula}
use Rattle.lj_clause.specs.Renaming.{inverse, clauses_image}
use Rattle.lj_book.specs.declared.refusal.Refusal.TheVariants.{PrivateVariable, NoSuchClause, Stale, Full, NoVariableLeft}
use Rattle.lj_book.specs.declared.event.Event.{Event}
use Rattle.lj_book.specs.declared.event.Event.TheVariants as events
use Rattle.lj_book.specs.declared.event.Reply.{Reply}
use Rattle.lj_book.specs.declared.event.Reply.TheVariants as replies
use Rattle.lj_book.specs.declared.event.Pending.{Pending}
use Rattle.lj_book.specs.declared.event.Pending.TheVariants as pendings
use Rattle.lj_book.specs.State.{given_out}
use Rattle.lj_book.specs.Events.{events_of, is_tidy, ends_in_take}
use Rattle.lj_book.specs.Solo.{IsSoloRun}
use Rattle.lj_book.specs.Named.{NamedState, names_of, beneath, IsNamedReached}
use Rattle.lj_book.specs.NamedViews.{named_view}
use Rattle.lj_book.specs.NamedWorlds.{NamedWorld, named_nothing_pending, IsNamedRun}

-- the one clause that each joint number ever stands for, in the seat's variables
abbrev pub own_clauses : NamedState → ℕ → ClauseMap
own_clauses s seat = clauses_image (inverse (names_of s seat)) (given_out (beneath s))

-- The solo object leaves open whether the history is full, and whether a clause lives. So it is left open with these whether
-- a joint variable is left, and whether a clause has a variable that the seat was not given.
abbrev pub counted_as : Reply → Reply
counted_as (replies.Refused NoVariableLeft) = replies.Refused Full
counted_as (replies.Refused PrivateVariable) = replies.Refused NoSuchClause
counted_as reply = reply

-- a lemma that can be written: its pivot, if it has one, is a literal of its clause, and no zero
abbrev pub IsProper : LemmaValue → Type 0
IsProper lemma = IsLemma lemma × IfSome lemma.pivot (λ q. (variable_of q == 0) ≡ false)

-- the lemma of the event, if it has one, can be written
abbrev pub IsProperEvent : Event → Type 0
IsProperEvent (events.Take seat a) = IsProper a.lemma
IsProperEvent (events.Test seat) = Unit {0}
IsProperEvent (events.Commit seat) = Unit {0}
IsProperEvent (events.Inside seat a) = IsProper a.lemma
IsProperEvent (events.Drop seat numbers) = Unit {0}
IsProperEvent (events.Adopt seat own joint) = Unit {0}
IsProperEvent (events.Import seat own clause) = Unit {0}
IsProperEvent (events.Leave seat) = Unit {0}

-- and so of each of these
abbrev pub AreProper : List Event → Type 0
AreProper [] = Unit {0}
AreProper (e ∷ es) = IsProperEvent e × AreProper es

-- The events of the seat, with their replies, are a run of its solo object in its own variables, from its view of the first
-- state, with nothing pending, to its view of the other.
abbrev pub IsNamedAlone : NamedState → List Event → List Reply → NamedState → ℕ → Type 0
IsNamedAlone s es rs end seat =
    (pending : Pending) × IsSoloRun (own_clauses end seat) seat
    (record { view = named_view s seat; pending = pendings.Nothing })
    (events_of seat es (map counted_as rs))
    (record { view = named_view end seat; pending = pending })

-- A seat for which the list of events is tidy is undisturbed, whatever other seats do: its events are a run of its solo
-- object, in its own variables.
abbrev pub NamedTidySeatsAreAlone : Type 0
NamedTidySeatsAreAlone =
    (s end : NamedState) (es : List Event) (rs : List Reply) (pending : List Pending) (seat : ℕ)
    → IsFormula s.formula → IsNamedReached s → AreProper es
    → IsNamedRun (named_nothing_pending s) es rs (record { state = end; pending = pending })
    → is_tidy seat es ≡ true
    → IsNamedAlone s es rs end seat

-- A receipt that a seat commits right after its own test is never stale, whatever other seats do: no reply to a commit
-- before which, going back among the seat's events, a take is met with only tests between, is Stale.
abbrev pub NamedFreshReceiptsAreNotStale : Type 0
NamedFreshReceiptsAreNotStale =
    (s : NamedState) (end : NamedWorld) (before after : List Event) (rs : List Reply)
    (seat joint : ℕ) → IsFormula s.formula → IsNamedReached s
    → AreProper (before ++ events.Commit seat ∷ after)
    → IsNamedRun (named_nothing_pending s) (before ++ events.Commit seat ∷ after) rs end
    → ends_in_take seat before ≡ true
    → slice_get rs (length before) ≡ Some (replies.Refused (Stale joint)) → ⊥
