-- What is said of the reply to an event, where only additions inside matter.
use Rattle.lj_book.specs.declared.event.Event.{Event}
use Rattle.lj_book.specs.declared.event.Event.TheVariants as events
use Rattle.lj_book.specs.declared.event.Reply.{Reply}
use Rattle.lj_book.specs.Named.{NamedState, top_of}
use Rattle.lj_book.specs.NamedViews.{named_view}
use Rattle.lj_book.specs.PrivateAdditions.{IsPrivateReply}

-- what is said so of an event's reply in a state
abbrev pub IsPrivateStep : NamedState → Event → Reply → Type 0
IsPrivateStep s (events.Take seat a) reply = Unit {0}
IsPrivateStep s (events.Test seat) reply = Unit {0}
IsPrivateStep s (events.Commit seat) reply = Unit {0}
IsPrivateStep s (events.Inside seat a) reply = IsPrivateReply (top_of s) (named_view s seat) seat a
    reply
IsPrivateStep s (events.Drop seat numbers) reply = Unit {0}
IsPrivateStep s (events.Adopt seat own joint) reply = Unit {0}
IsPrivateStep s (events.Import seat own clause) reply = Unit {0}
IsPrivateStep s (events.Leave seat) reply = Unit {0}
