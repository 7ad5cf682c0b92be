use Rattle.std.proofs.Common.{◌≡◌, map}
use Rattle.lj_run.proofs.joint.opened.fn.run_beside.scope.Given as goal

-- each worker was promised to run the job that came
abbrev pub invariant-loop-job : goal.invariant-loop-job
invariant-loop-job g l = record {
  goes : (goal.iterator-loop-job g).can_next l.job-iterator;
  finite : (goal.iterator-loop-job g).is_finite l.job-iterator;
  jobs : map (λ w. w.promise.0.value) l.workers.items ≡ l.yielded;
}
