use Rattle.std.specs.Prelude.{◌≡◌, drop}
use Rattle.lj_share.specs.inner.Ahead.{first_unseen}
use Rattle.lj_share.proofs.seat.SeenClauses.first_unseen.Given as goal

-- the first of all is the first of those that are left
abbrev pub invariant-loop-index : goal.invariant-loop-index
invariant-loop-index g l = first_unseen l.self (drop l.fn.from l.fn.numbers) ≡ first_unseen l.self (drop l.index l.fn.numbers)
