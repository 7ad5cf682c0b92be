use Rattle.std.proofs.Common.{rules, ◌≡◌, ◌+◌, [], length, sym, ap, ◌∙◌, subst}
use Rattle.std.specs.Prelude.{All}
use Rattle.std.specs.List.{zip, sum_by, list_all}
use Rattle.lj_text.specs.Streams.{source_state}
use Rattle.lj_share.specs.Seats.{SeatValue, entries_made, new_seats}
use Rattle.lj_run.specs.InTurn.{streams_by_seat}
use Rattle.lj_run.specs.inner.Joint.{is_confirmed}
use Rattle.lj_run.specs.Joint.{IsBookOfRun, accepted_count}
use Rattle.lj_run.specs.Run.{has_verdict}
use Rattle.lj_run.proofs.JointRunLemmas.{streams_counted, fresh_seats, length-new_seats, as_many_ran, no_other_test, opened_by, run_by, beside_of, entries_counted, book_of_run, unconfirmed}
use Rattle.lj_run.proofs.joint.opened.run_opened.Goals as goal

pub run_all-requires-clause-seats : goal.run_all-requires-clause-seats
run_all-requires-clause-seats g c = λ κs lives.
    let many = streams_counted c.args.streams.items c.args.closing c.len.result c.from.result (search rules) (search rules) in
    ap length c.in_ok-shared.ensures.seats ∙ length-new_seats c.args.formula (c.len.result + c.from.result) ∙ many

pub run_all-requires-clause-fresh : goal.run_all-requires-clause-fresh
run_all-requires-clause-fresh g c = λ κs lives. subst (All (λ (s : SeatValue). s.calls ≡ [])) (sym c.in_ok-shared.ensures.seats) (fresh_seats c.args.formula (c.len.result + c.from.result))

pub unreachable-requires : goal.unreachable-requires
unreachable-requires g c =
    let seen = source_state g.S.Source.given g.S.Source.ended g.S.Source.rest g.S.Source.failures in
    let streams = streams_by_seat c.args.streams.items c.args.closing in
    let n = c.len.result + c.from.result in
    let many = streams_counted c.args.streams.items c.args.closing c.len.result c.from.result (search rules) (search rules) in
    let seats = ap length c.in_ok-shared.ensures.seats ∙ length-new_seats c.args.formula n ∙ many in
    let ran = as_many_ran seen g.L.BookId.formula g.L.BookId.seats g.L.BookId.max_steps (λ r. r.seat) (λ r. r.report) c.in_ok-shared.seats.items streams c.in_ok-ran.ran.items seats c.in_ok-ran.ensures in
    no_other_test (length c.in_ok-seats.seats.items) g.L.BookId.seats (ap length c.in_ok-seats.ensures.seats ∙ ran ∙ sym c.requires.seats) c.in_default.ensures.all

pub returns-then-not-are_confirmed-clause-fault : goal.returns-then-not-are_confirmed-clause-fault
returns-then-not-are_confirmed-clause-fault g c =
    let seen = source_state g.S.Source.given g.S.Source.ended g.S.Source.rest g.S.Source.failures in
    let streams = streams_by_seat c.args.streams.items c.args.closing in
    let reports = c.in_ok-seats.reports.items in
    let s = c.in-Ok.closed in
    let many = streams_counted c.args.streams.items c.args.closing c.len.result c.from.result (search rules) (search rules) in
    let opened = opened_by g.L.BookId.formula c.args.formula g.L.BookId.seats (length streams) g.L.BookId.max_steps c.args.max_steps s c.requires.formula c.requires.seats c.requires.limit c.book.ensures.opened in
    let ran = beside_of seen g.L.BookId.formula g.L.BookId.seats g.L.BookId.max_steps (λ r. r.seat) (λ r. r.report) s (c.len.result + c.from.result) c.in_ok-shared.seats.items streams c.in_ok-ran.ran.items c.in_ok-seats.seats.items reports
    (c.in_ok-shared.ensures.seats ∙ ap (λ f. new_seats f (c.len.result + c.from.result)) c.requires.formula) many c.in_ok-ran.ensures c.in_ok-seats.ensures.seats c.in_ok-seats.ensures.reports c.in-Ok.ensures.seats in
    let run = run_by seen g.L.BookId.formula c.args.formula g.L.BookId.seats (length streams) g.L.BookId.max_steps c.args.max_steps s streams reports c.requires.formula c.requires.seats c.requires.limit ran in
    let told = ap (λ b. list_all (λ r. is_confirmed (has_verdict b) r.end) reports) (sym c.book.ensures.book) ∙ ap (list_all (λ r. is_confirmed (has_verdict c.book.result.now) r.end)) (sym c.deref.ensures.value) ∙ sym c.are_confirmed.ensures in
    unconfirmed seen c.args.formula c.args.max_steps streams reports s opened c.in-Ok.ensures.legal run (told ∙ c.if-not-are_confirmed.true)

pub returns-clause-ran : goal.returns-clause-ran
returns-clause-ran g c =
    let seen = source_state g.S.Source.given g.S.Source.ended g.S.Source.rest g.S.Source.failures in
    let streams = streams_by_seat c.args.streams.items c.args.closing in
    let reports = c.in_ok-seats.reports.items in
    let s = c.in-Ok.closed in
    let many = streams_counted c.args.streams.items c.args.closing c.len.result c.from.result (search rules) (search rules) in
    let opened = opened_by g.L.BookId.formula c.args.formula g.L.BookId.seats (length streams) g.L.BookId.max_steps c.args.max_steps s c.requires.formula c.requires.seats c.requires.limit c.book.ensures.opened in
    let ran = beside_of seen g.L.BookId.formula g.L.BookId.seats g.L.BookId.max_steps (λ r. r.seat) (λ r. r.report) s (c.len.result + c.from.result) c.in_ok-shared.seats.items streams c.in_ok-ran.ran.items c.in_ok-seats.seats.items reports
    (c.in_ok-shared.ensures.seats ∙ ap (λ f. new_seats f (c.len.result + c.from.result)) c.requires.formula) many c.in_ok-ran.ensures c.in_ok-seats.ensures.seats c.in_ok-seats.ensures.reports c.in-Ok.ensures.seats in
    let run = run_by seen g.L.BookId.formula c.args.formula g.L.BookId.seats (length streams) g.L.BookId.max_steps c.args.max_steps s streams reports c.requires.formula c.requires.seats c.requires.limit ran in
    let counted = c.in-Ok.ensures.entries ∙ ap entries_made c.in_ok-seats.ensures.seats ∙ entries_counted seen g.L.BookId.formula g.L.BookId.seats g.L.BookId.max_steps (λ r. r.seat) (λ r. r.report) (zip c.in_ok-shared.seats.items streams) c.in_ok-ran.ran.items c.in_ok-ran.ensures
    ∙ ap (sum_by accepted_count) (sym c.in_ok-seats.ensures.reports) in
    let told = ap (λ b. list_all (λ r. is_confirmed (has_verdict b) r.end) reports) (sym c.book.ensures.book) ∙ ap (list_all (λ r. is_confirmed (has_verdict c.book.result.now) r.end)) (sym c.deref.ensures.value) ∙ sym c.are_confirmed.ensures in
    let book = book_of_run seen c.args.formula c.args.max_steps streams reports s opened c.in-Ok.ensures.legal counted run (told ∙ c.if-not-are_confirmed.false) in
    subst (λ b. IsBookOfRun seen c.args.formula c.args.max_steps streams (has_verdict b) reports b) (sym c.into_book.ensures.book) book
