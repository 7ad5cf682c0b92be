use Rattle.std.proofs.Common.{◌≡◌}
use Rattle.lj_run.proofs.joint.opened.jobs_of.Given as goal

-- the jobs are those that came
abbrev pub invariant-loop-job : goal.invariant-loop-job
invariant-loop-job g l = record {
  goes : (goal.iterator-loop-job g).can_next l.job-iterator;
  finite : (goal.iterator-loop-job g).is_finite l.job-iterator;
  jobs : l.jobs.items ≡ l.yielded;
}
