use Rattle.std.proofs.Common.{sym, ap, ◌∙◌, ◌++◌, ◌∷◌, []}
use Rattle.std.proofs.lemmas.List.{map-id}
use Rattle.std.proofs.lemmas.Iterator.{YieldsList-from_zip}
use Rattle.std.proofs.lemmas.Iterator.Adapters.{YieldsList-from_vec}
use Rattle.std.proofs.lemmas.Iterator.Consumers.{YieldsList-end}
use Rattle.std.specs.Iterator.Adapters.{zip_first, zip_second}
use Rattle.std.specs.Vec.Iter.{into_iter_items, into_iter_len}
use Rattle.lj_run.proofs.joint.opened.jobs_of.Goals as goal

pub loop-job-preserved : goal.loop-job-preserved
loop-job-preserved g c = record {
  goes = (tt, tt);
  finite = tt;
  jobs = c.in_ok-push.ensures.items ∙ ap (λ js. js ++ c.in-Some.job ∷ []) c.loop-job.invariant.jobs;
}

pub returns : goal.returns
returns g c =
    let z = c.zip-job-items in
    let it = c.into_iter-job-iterator in
    let same = it.ensures.into_iter_gives in
    let first = ap zip_first same ∙ z.ensures.first in
    let items = ap into_iter_items first ∙ c.into_iter.ensures.rest in
    let len = ap into_iter_len first ∙ c.into_iter.ensures.len ∙ c.args.seats.ok.0 in
    let second = ap zip_second same in
    let others = ap into_iter_items second ∙ z.ensures.second.0 in
    let others_len = ap into_iter_len second ∙ z.ensures.second.1 ∙ c.args.streams.ok.0 in
    let list = YieldsList-from_zip {s = it.result} (YieldsList-from_vec c.args.seats.items items len) (YieldsList-from_vec c.args.streams.items others others_len) in
    let done = YieldsList-end list c.loop-job.yielded c.loop-job.job-iterator c.loop-job.yielded_by c.next.result c.next.new.self c.in-None.is c.next.ensures.steps in
    c.loop-job.invariant.jobs ∙ (sym (map-id c.loop-job.yielded) ∙ done.0)
