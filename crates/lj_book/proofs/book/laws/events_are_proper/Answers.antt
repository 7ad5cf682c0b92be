use Rattle.std.proofs.Common.{◌≡◌, ◌+◌, ap, sym, ◌∙◌, subst, take}
use Rattle.std.specs.Prelude.{List, [], ◌∷◌, ◌++◌}
use Rattle.std.proofs.lemmas.List.{take_more}
use Rattle.lj_book.specs.declared.event.Event.{Event}
use Rattle.lj_book.specs.NamedSolo.{AreProper}
use Rattle.lj_book.proofs.NamedSoloRuns.{proper-push}
use Rattle.lj_book.proofs.book.laws.events_are_proper.Goals as goal

pub loop-event-preserved : goal.loop-event-preserved
loop-event-preserved c =
    let es : List Event = c.args.events.now in
    let i = c.loop-event.event-index in
    let more : take (i + 1) es ≡ take i es ++ c.event-item.result ∷ [] =
    take_more es i c.event-item.result c.loop-event-test.true ∙ ap (λ (e : Event). take i es ++ e ∷ []) (sym c.event-item.is) in
    subst AreProper (sym more) (proper-push (take i es) c.event-item.result c.loop-event.invariant c.event_is_proper.ensures)
