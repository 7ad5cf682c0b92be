use Rattle.std.proofs.Common.{take}
use Rattle.lj_book.specs.NamedSolo.{AreProper}
use Rattle.lj_book.proofs.book.laws.events_are_proper.Given as goal

abbrev pub invariant-loop-event : goal.invariant-loop-event
invariant-loop-event l = AreProper (take l.event-index l.events)
