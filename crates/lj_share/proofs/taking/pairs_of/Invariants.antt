use Rattle.std.proofs.Common.{◌≡◌}
use Rattle.lj_book.specs.Calls.{pairs_of}
use Rattle.lj_book.specs.inner.Fronts.{with_front}
use Rattle.lj_share.specs.inner.Seats.{own_pair}
use Rattle.lj_share.proofs.taking.pairs_of.Given as goal

abbrev pub invariant-loop-number : goal.invariant-loop-number
invariant-loop-number l = with_front l.pairs.items (pairs_of (own_pair l.formula l.own) l.number-iterator) ≡ pairs_of (own_pair l.formula l.own) l.fn.numbers
