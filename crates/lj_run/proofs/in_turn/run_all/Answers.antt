use Rattle.std.proofs.Common.{rules, ◌≡◌, ◌+◌, [], ◌∷◌, ◌++◌, length, sym, ap, ◌∙◌, subst, length-append, zero-add}
use Rattle.std.proofs.lemmas.List.{map-id}
use Rattle.std.proofs.lemmas.Iterator.Adapters.{YieldsList-from_vec}
use Rattle.std.proofs.lemmas.Iterator.Consumers.{YieldsList-turn, YieldsList-end}
use Rattle.lj_text.specs.Streams.{source_state}
use Rattle.lj_run.specs.InTurn.{IsReport, RunInTurn}
use Rattle.lj_run.proofs.InTurnLemmas.{one_more_run}
use Rattle.lj_run.proofs.in_turn.run_all.Goals as goal

pub run_of-requires : goal.run_of-requires
run_of-requires g c =
    let gives = c.into_iter-stream-iterator.ensures.into_iter_gives in
    let list = YieldsList-from_vec c.args.streams.items gives.0 (gives.1 ∙ c.args.streams.ok.0) in
    let turn = YieldsList-turn list c.loop-stream.yielded c.loop-stream.stream-iterator c.loop-stream.yielded_by c.next.result c.next.new.self c.in-Some.stream c.in-Some.is c.next.ensures.steps in
    subst (λ stream. g.S.Source.failures stream ≡ 0) (sym turn.1) (c.requires.unfailed (length c.loop-stream.yielded) c.in-Some.stream turn.0)

pub overflow_add-number : goal.overflow_add-number
overflow_add-number g c =
    let gives = c.into_iter-stream-iterator.ensures.into_iter_gives in
    let list = YieldsList-from_vec c.args.streams.items gives.0 (gives.1 ∙ c.args.streams.ok.0) in
    let turn = YieldsList-turn list c.loop-stream.yielded c.loop-stream.stream-iterator c.loop-stream.yielded_by c.next.result c.next.new.self c.in-Some.stream c.in-Some.is c.next.ensures.steps in
    let below = turn.0 in
    search rules

pub loop-stream-preserved : goal.loop-stream-preserved
loop-stream-preserved g c =
    let seen = source_state g.S.Source.given g.S.Source.ended g.S.Source.rest g.S.Source.failures in
    let stream = c.in-Some.stream in
    let report = c.run_of.result in
    let is = subst (λ n. IsReport seen n c.loop-stream.seat.book c.run_of.new.seat.book stream report) (c.loop-stream.invariant.seat_is ∙ sym (zero-add (length c.loop-stream.yielded))) c.run_of.ensures.report in
    let run = one_more_run seen 0 c.loop-stream.yielded stream c.args.seat.now.book c.loop-stream.seat.book c.run_of.new.seat.book c.loop-stream.reports.items report c.loop-stream.invariant.runs is in
    record {
      goes = tt;
      finite = tt;
      seat_is = ap (λ n. n + 1) c.loop-stream.invariant.seat_is ∙ sym (length-append c.loop-stream.yielded (stream ∷ []));
      formula = c.run_of.ensures.formula ∙ c.loop-stream.invariant.formula;
      runs = subst (λ rs. RunInTurn seen 0 (c.loop-stream.yielded ++ stream ∷ []) c.args.seat.now.book rs c.run_of.new.seat.book) (sym c.in_ok-push.ensures.items) run;
    }

pub returns-clause-reports : goal.returns-clause-reports
returns-clause-reports g c =
    let seen = source_state g.S.Source.given g.S.Source.ended g.S.Source.rest g.S.Source.failures in
    let gives = c.into_iter-stream-iterator.ensures.into_iter_gives in
    let list = YieldsList-from_vec c.args.streams.items gives.0 (gives.1 ∙ c.args.streams.ok.0) in
    let done = YieldsList-end list c.loop-stream.yielded c.loop-stream.stream-iterator c.loop-stream.yielded_by c.next.result c.next.new.self c.in-None.is c.next.ensures.steps in
    subst (λ streams. RunInTurn seen 0 streams c.args.seat.now.book c.loop-stream.reports.items c.loop-stream.seat.book) (sym (map-id c.loop-stream.yielded) ∙ done.0) c.loop-stream.invariant.runs
