use Rattle.lj_share.specs.inner.Seats.{AreGivenUp}
use Rattle.lj_share.proofs.own_clauses.OwnClauses.remove_all.Given as goal

abbrev pub invariant-loop-own : goal.invariant-loop-own
invariant-loop-own l = AreGivenUp l.yielded l.initial.self l.self
