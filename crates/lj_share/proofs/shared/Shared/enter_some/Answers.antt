use Rattle.std.proofs.Common.{Some, ap, subst, sym, ◌∙◌}
use Rattle.std.proofs.lemmas.Option.{slice_get-get_or}
use Rattle.lj_share.specs.Refusals.{IsLineRefused}
use Rattle.lj_share.specs.Seats.{SeatValue}
use Rattle.lj_share.proofs.EnteredLaws.{entered_next}
use Rattle.lj_share.proofs.shared.Shared.enter_some.Goals as goal

pub returns-in-Ok-clause-entered : goal.returns-in-Ok-clause-entered
returns-in-Ok-clause-entered g c =
    let ls = c.args.lines.now in
    let k = c.enter_run-entered.result.0 in
    let found = c.in-Some.ensures.lookup in
    entered_next c.args.seat.now c.enter_run-entered.new.seat c.enter_next.new.seat ls k c.in-Some.next.now (slice_get-get_or ls k _ found.3.0 ∙ ap Some (sym found.1)) c.enter_run-entered.ensures.entered
    (record { made = c.in-Ok.ensures.made; free = c.in-Ok.ensures.free })

pub returns-in-Err-clause-refused : goal.returns-in-Err-clause-refused
returns-in-Err-clause-refused g c =
    let o = g.L.BookId in
    let ls = c.args.lines.now in
    let k = c.enter_run-entered.result.0 in
    let found = c.in-Some.ensures.lookup in
    let first = c.in-Some.next.now in
    (first, slice_get-get_or ls k _ found.3.0 ∙ ap Some (sym found.1), subst (λ (s : SeatValue). IsLineRefused o.formula o.seats o.max_steps s first.line c.in-Err.refusal) (sym c.in-Err.ensures.kept) c.in-Err.ensures.refusal)
