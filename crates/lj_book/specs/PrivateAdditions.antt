-- Additions that define or use a variable of the seat's own: extension by definitions works as if the seat were alone.
use Rattle.std.specs.Prelude.{◌≡◌, ◌≢◌, ◌⊎◌, ◌<◌, ℕ, ℤ, List, ◌∷◌, ◌++◌, length, take, Option, Some, None, slice_get}
use Rattle.lj_clause.specs.Memory.{no_memory}
use Rattle.lj_clause.specs.Literal.{variable_of}
use Rattle.lj_clause.specs.LiteralSet.{LiteralSet}
use Rattle.lj_clause.specs.Lemma.{IsLemma}
use Rattle.lj_clause.specs.ClauseMap.{IsFormula}
use Rattle.lj_clause.specs.Rat.{rat}
use Rattle.lj_text.specs.declared.line.Addition.{Addition}
use Rattle.lj_book.specs.declared.refusal.Refusal.{Refusal}
use Rattle.lj_book.specs.declared.refusal.Refusal.TheVariants.{Full, NoVariableLeft, NoMemory}
use Rattle.lj_book.specs.declared.entry.Entry.{Entry}
use Rattle.lj_book.specs.declared.event.Event.{Event}
use Rattle.lj_book.specs.declared.event.Event.TheVariants as events
use Rattle.lj_book.specs.declared.event.Reply.{Reply}
use Rattle.lj_book.specs.declared.event.Reply.TheVariants as replies
use Rattle.lj_book.specs.Inside.{joint_addition, rat_refusal}
use Rattle.lj_book.specs.Solo.{View}
use Rattle.lj_book.specs.Named.{NamedState, top_of, after_named, IsNamedLegal, IsNamedReached}
use Rattle.lj_book.specs.NamedViews.{named_view, seen_clauses, IsOpenAlone}
use Rattle.lj_book.specs.NamedWorlds.{NamedWorld, named_nothing_pending, IsNamedAnswered, IsNamedRun}

-- The lemma is added, or the history is full, or no variable is left, or memory is short.
abbrev pub IsAcceptance : Reply → Type 0
IsAcceptance (replies.Added added) = Unit {0}
IsAcceptance (replies.Refused Full) = Unit {0}
IsAcceptance (replies.Refused NoVariableLeft) = Unit {0}
IsAcceptance (replies.Refused (NoMemory _)) = Unit {0}
IsAcceptance reply = ⊥

-- The reply is that of a test which refuses so, or accepts. NoMemory may stand in place of either.
abbrev pub IsTestReply : Option Refusal → Reply → Type 0
IsTestReply None reply = IsAcceptance reply
IsTestReply (Some e) reply =
    (reply ≡ replies.Refused e) ⊎ (reply ≡ replies.Refused (NoMemory no_memory))

-- Where a seat with this view takes the addition, its first propagation stays open and its pivot is a variable above top, the
-- reply is that of RAT among the clauses that the seat sees, in its own variables and at their numbers.
abbrev pub IsPrivateReply : ℕ → View → ℕ → Addition → Reply → Type 0
IsPrivateReply top v seat a reply = (left : LiteralSet) (pivot : ℤ) (at : IsOpenAlone v seat a left)
    → a.lemma.pivot ≡ Some pivot → top < variable_of pivot
    → IsTestReply
    (rat_refusal (rat (seen_clauses v) left pivot (joint_addition a.number at.case).groups)) reply

-- So each addition inside is answered.
abbrev pub PrivateRepliesAreAlone : Type 0
PrivateRepliesAreAlone = (w after : NamedWorld) (seat : ℕ) (a : Addition) (reply : Reply)
    → IsFormula w.state.formula → IsNamedReached w.state → IsLemma a.lemma
    → IsNamedAnswered w (events.Inside seat a) reply after
    → IsPrivateReply (top_of w.state) (named_view w.state seat) seat a reply

-- Of the events, played from a state in which nothing is pending: wherever an addition inside stands among them, those
-- before it lead to some world, and it is answered so by what its seat sees there.
abbrev pub ArePrivateReplies : NamedState → List Event → List Reply → Type 0
ArePrivateReplies s es rs = (before after : List Event) (seat : ℕ) (a : Addition)
    → es ≡ before ++ events.Inside seat a ∷ after
    → (w : NamedWorld) × (IsNamedRun (named_nothing_pending s) before (take (length before) rs) w
    × ((reply : Reply) × ((slice_get rs (length before) ≡ Some reply)
    × IsPrivateReply (top_of w.state) (named_view w.state seat) seat a reply)))

-- What another seat does leaves what a seat sees.
abbrev pub OthersLeaveViews : Type 0
OthersLeaveViews = (s : NamedState) (e : Entry) (seat : ℕ) → IsNamedReached s → IsNamedLegal s e
    → e.seat ≢ seat → named_view (after_named s e) seat ≡ named_view s seat
