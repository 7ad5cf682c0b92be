use Rattle.std.proofs.Common.{◌≡◌, map}
use Rattle.lj_run.proofs.joint.opened.parted.Given as goal

-- the parts are those of what came
abbrev pub invariant-loop-one : goal.invariant-loop-one
invariant-loop-one g l = record {
  goes : (goal.iterator-loop-one g).can_next l.one-iterator;
  finite : (goal.iterator-loop-one g).is_finite l.one-iterator;
  seats : l.seats.items ≡ map (λ r. r.seat) l.yielded;
  reports : l.reports.items ≡ map (λ r. r.report) l.yielded;
}
