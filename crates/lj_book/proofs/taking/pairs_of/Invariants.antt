use Rattle.std.proofs.Common.{◌≡◌}
use Rattle.lj_book.specs.Calls.{pairs_of, pair_in}
use Rattle.lj_book.specs.inner.Fronts.{with_front}
use Rattle.lj_book.proofs.taking.pairs_of.Given as goal

abbrev pub invariant-loop-own : goal.invariant-loop-own
invariant-loop-own l = with_front l.pairs.items (pairs_of (pair_in l.tables l.clause_log.live l.seat) l.own-iterator) ≡ pairs_of (pair_in l.tables l.clause_log.live l.seat) l.fn.numbers
