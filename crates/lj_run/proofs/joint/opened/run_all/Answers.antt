use Rattle.std.proofs.Common.{◌≡◌, [], ◌∷◌, ◌++◌, length, Some, refl, sym, ap, ◌∙◌, subst}
use Rattle.std.specs.Prelude.{All, IfOk}
use Rattle.std.specs.List.{zip, AllZip}
use Rattle.std.proofs.lemmas.List.Elements.{All-pop}
use Rattle.std.proofs.lemmas.Slice.Zip.{all_zipped_more}
use Rattle.lj_text.specs.Streams.{source_state}
use Rattle.lj_share.specs.Seats.{SeatValue}
use Rattle.lj_run.specs.InTurn.{streams_by_seat}
use Rattle.lj_run.specs.inner.Joint.{HasRun}
use Rattle.lj_run.proofs.JointRunLemmas.{zipped_first, zipped_second, zip_more, length_before}
use Rattle.lj_run.proofs.joint.opened.run_all.Goals as goal

pub run_beside-requires-clause-fresh : goal.run_beside-requires-clause-fresh
run_beside-requires-clause-fresh g c = λ κs lives.
    subst (All (λ job. job.0.calls ≡ [])) (sym c.in_ok-jobs_of-in-None.ensures) (zipped_first (λ (s : SeatValue). s.calls ≡ []) c.args.seats.items c.args.streams.items c.requires.fresh)

pub run_beside-requires-clause-unfailed : goal.run_beside-requires-clause-unfailed
run_beside-requires-clause-unfailed g c = λ κs lives.
    let unfailed = subst (λ o. All (λ stream. g.S.Source.failures stream ≡ 0) (streams_by_seat c.args.streams.items o)) c.in-None.is c.requires.unfailed in
    subst (All (λ job. g.S.Source.failures job.1 ≡ 0)) (sym c.in_ok-jobs_of-in-None.ensures) (zipped_second (λ stream. g.S.Source.failures stream ≡ 0) c.args.seats.items c.args.streams.items unfailed)

pub run_beside-requires-in-Some-clause-fresh : goal.run_beside-requires-in-Some-clause-fresh
run_beside-requires-in-Some-clause-fresh g c = λ κs lives.
    let fresh = (All-pop (λ (s : SeatValue). s.calls ≡ []) c.args.seats.items c.pop.new.self.items (Some c.in-Some-pop.seat) c.in-Some-pop.ensures.items c.requires.fresh).0 in
    subst (All (λ job. job.0.calls ≡ [])) (sym c.in_ok-jobs_of-in-Some.ensures) (zipped_first (λ (s : SeatValue). s.calls ≡ []) c.pop.new.self.items c.args.streams.items fresh)

pub run_beside-requires-in-Some-clause-unfailed : goal.run_beside-requires-in-Some-clause-unfailed
run_beside-requires-in-Some-clause-unfailed g c = λ κs lives.
    let all = subst (λ o. All (λ stream. g.S.Source.failures stream ≡ 0) (streams_by_seat c.args.streams.items o)) c.in-Some.is c.requires.unfailed in
    let unfailed = (All-pop (λ stream. g.S.Source.failures stream ≡ 0) (streams_by_seat c.args.streams.items (Some c.in-Some.stream)) c.args.streams.items (Some c.in-Some.stream) refl all).0 in
    subst (All (λ job. g.S.Source.failures job.1 ≡ 0)) (sym c.in_ok-jobs_of-in-Some.ensures) (zipped_second (λ stream. g.S.Source.failures stream ≡ 0) c.pop.new.self.items c.args.streams.items unfailed)

pub run_worker-requires-clause-unfailed : goal.run_worker-requires-clause-unfailed
run_worker-requires-clause-unfailed g c =
    let all = subst (λ o. All (λ stream. g.S.Source.failures stream ≡ 0) (streams_by_seat c.args.streams.items o)) c.in-Some.is c.requires.unfailed in
    (All-pop (λ stream. g.S.Source.failures stream ≡ 0) (streams_by_seat c.args.streams.items (Some c.in-Some.stream)) c.args.streams.items (Some c.in-Some.stream) refl all).1

pub run_worker-requires-clause-fresh : goal.run_worker-requires-clause-fresh
run_worker-requires-clause-fresh g c =
    (All-pop (λ (s : SeatValue). s.calls ≡ []) c.args.seats.items c.pop.new.self.items (Some c.in-Some-pop.seat) c.in-Some-pop.ensures.items c.requires.fresh).1

pub returns-in_ok-jobs_of-in-None : goal.returns-in_ok-jobs_of-in-None
returns-in_ok-jobs_of-in-None g c =
    let seen = source_state g.S.Source.given g.S.Source.ended g.S.Source.rest g.S.Source.failures in
    let jobs = c.in_ok-jobs_of-in-None.ensures ∙ ap (λ o. zip c.args.seats.items (streams_by_seat c.args.streams.items o)) (sym c.in-None.is) in
    subst (λ js. IfOk c.run_beside.result (λ ran. AllZip (λ job r. HasRun seen g.L.BookId.formula g.L.BookId.seats g.L.BookId.max_steps job r.seat r.report) js ran.items)) jobs c.run_beside.ensures

pub returns-in_ok-push-in-Some : goal.returns-in_ok-push-in-Some
returns-in_ok-push-in-Some g c =
    let seen = source_state g.S.Source.given g.S.Source.ended g.S.Source.rest g.S.Source.failures in
    let rs = c.in_ok-ran-in-Some.ran.items in
    let seats = c.pop.new.self.items in
    let all = c.requires.seats ∙ ap (λ o. length (streams_by_seat c.args.streams.items o)) c.in-Some.is in
    let many = length_before c.args.seats.items seats c.in-Some-pop.seat c.args.streams.items c.in-Some.stream c.in-Some-pop.ensures.items all in
    let ran = subst (λ js. AllZip (λ job r. HasRun seen g.L.BookId.formula g.L.BookId.seats g.L.BookId.max_steps job r.seat r.report) js rs) c.in_ok-jobs_of-in-Some.ensures c.in_ok-ran-in-Some.ensures in
    let more = all_zipped_more (λ job r. HasRun seen g.L.BookId.formula g.L.BookId.seats g.L.BookId.max_steps job r.seat r.report) (zip seats c.args.streams.items) rs (c.in-Some-pop.seat, c.in-Some.stream) c.run_worker.result ran c.run_worker.ensures in
    let jobs = sym (zip_more seats c.args.streams.items c.in-Some-pop.seat c.in-Some.stream many) ∙ ap (λ ss. zip ss (streams_by_seat c.args.streams.items (Some c.in-Some.stream))) (sym c.in-Some-pop.ensures.items) ∙ ap (λ o. zip c.args.seats.items (streams_by_seat c.args.streams.items o)) (sym c.in-Some.is) in
    subst (λ xs. AllZip (λ job r. HasRun seen g.L.BookId.formula g.L.BookId.seats g.L.BookId.max_steps job r.seat r.report) (zip c.args.seats.items (streams_by_seat c.args.streams.items c.args.closing)) xs) (sym c.in_ok-push-in-Some.ensures.items)
    (subst (λ js. AllZip (λ job r. HasRun seen g.L.BookId.formula g.L.BookId.seats g.L.BookId.max_steps job r.seat r.report) js (rs ++ c.run_worker.result ∷ [])) jobs more)
