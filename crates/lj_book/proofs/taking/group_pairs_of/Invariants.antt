use Rattle.std.proofs.Common.{◌≡◌}
use Rattle.lj_hint.specs.Case.{groups_of}
use Rattle.lj_book.specs.Calls.{group_pairs_of, pair_in}
use Rattle.lj_book.specs.inner.Fronts.{with_front}
use Rattle.lj_book.proofs.taking.group_pairs_of.Given as goal

abbrev pub invariant-loop-group : goal.invariant-loop-group
invariant-loop-group l = with_front (groups_of l.pairs.items) (group_pairs_of (pair_in l.tables l.clause_log.live l.seat) l.group-iterator) ≡ group_pairs_of (pair_in l.tables l.clause_log.live l.seat) l.groups
