use Rattle.std.proofs.Common.{◌≡◌}
use Rattle.lj_hint.specs.Case.{groups_of}
use Rattle.lj_book.specs.Calls.{group_pairs_of}
use Rattle.lj_book.specs.inner.Fronts.{with_front}
use Rattle.lj_share.specs.inner.Seats.{own_pair}
use Rattle.lj_share.proofs.taking.group_pairs_of.Given as goal

abbrev pub invariant-loop-group : goal.invariant-loop-group
invariant-loop-group l = with_front (groups_of l.pairs.items) (group_pairs_of (own_pair l.formula l.own) l.group-iterator) ≡ group_pairs_of (own_pair l.formula l.own) l.groups
