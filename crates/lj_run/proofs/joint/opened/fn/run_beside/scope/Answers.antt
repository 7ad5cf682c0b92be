use Rattle.std.proofs.Common.{◌≡◌, ◌<◌, [], length, sym, ◌∙◌, subst}
use Rattle.std.specs.Prelude.{slice_index_or}
use Rattle.std.specs.List.{AllZip}
use Rattle.std.proofs.lemmas.Option.{get_or_from_slice_get}
use Rattle.std.proofs.lemmas.List.{map-id}
use Rattle.std.proofs.lemmas.Iterator.Adapters.{YieldsList-from_vec}
use Rattle.std.proofs.lemmas.Iterator.Consumers.{YieldsList-turn, YieldsList-end}
use Rattle.lj_text.specs.Streams.{source_state}
use Rattle.lj_run.specs.inner.Joint.{HasRun}
use Rattle.lj_run.proofs.JointRunLemmas.{got_below, zip_each}
use Rattle.lj_run.proofs.joint.opened.fn.run_beside.scope.Goals as goal

-- The worker's job is one of those that the run was given.
pub spawn_with-requires-clause-runs : goal.spawn_with-requires-clause-runs
spawn_with-requires-clause-runs g c κs within = λ others bytes held made κs' lives.
    let gives = c.into_iter-job-iterator.ensures.into_iter_gives in
    let list = YieldsList-from_vec c.captures.jobs.items gives.0 (gives.1 ∙ c.captures.jobs.ok.0) in
    let turn = YieldsList-turn list c.loop-job.yielded c.loop-job.job-iterator c.loop-job.yielded_by c.next.result c.next.new.self c.in-Some.job c.in-Some.is c.next.ensures.steps in
    let job = sym turn.1 in
    (subst (λ j. g.S.Source.failures j.1 ≡ 0) job (c.requires.1 (length c.loop-job.yielded) c.in-Some.job turn.0), subst (λ j. j.0.calls ≡ []) job (c.requires.0 (length c.loop-job.yielded) c.in-Some.job turn.0))

pub returns : goal.returns
returns g c =
    let seen = source_state g.S.Source.given g.S.Source.ended g.S.Source.rest g.S.Source.failures in
    let ws = c.loop-job.workers.items in
    let rs = c.in_ok-join_promised.field-0.items in
    let same : length rs ≡ length ws = sym c.in_ok-join_promised.field-0.ok.0 ∙ c.in_ok-join_promised.ensures.len ∙ c.loop-job.workers.ok.0 in
    let gives = c.into_iter-job-iterator.ensures.into_iter_gives in
    let list = YieldsList-from_vec c.captures.jobs.items gives.0 (gives.1 ∙ c.captures.jobs.ok.0) in
    let done = YieldsList-end list c.loop-job.yielded c.loop-job.job-iterator c.loop-job.yielded_by c.next.result c.next.new.self c.in-None.is c.next.ensures.steps in
    let jobs = c.loop-job.invariant.jobs ∙ (sym (map-id c.loop-job.yielded) ∙ done.0) in
    subst (λ js. AllZip (λ job r. HasRun seen g.L.BookId.formula g.L.BookId.seats g.L.BookId.max_steps job r.seat r.report) js rs) jobs (zip_each (λ job r. HasRun seen g.L.BookId.formula g.L.BookId.seats g.L.BookId.max_steps job r.seat r.report) (λ w. w.promise.0.value) ws rs same (λ i w r a b.
    let keeps = c.in_ok-join_promised.ensures.each i r (subst (λ n. i < n) (sym c.loop-job.workers.ok.0) (got_below ws i w a)) in
    let handle = keeps.1.handle_is ∙ get_or_from_slice_get ws i w keeps.1.handle a in
    subst (λ x. HasRun seen g.L.BookId.formula g.L.BookId.seats g.L.BookId.max_steps w.promise.0.value x.seat x.report) (get_or_from_slice_get rs i r r b) (subst (λ h. HasRun seen g.L.BookId.formula g.L.BookId.seats g.L.BookId.max_steps h.promise.0.value (slice_index_or rs i r).seat (slice_index_or rs i r).report) handle keeps.1.kept)))
