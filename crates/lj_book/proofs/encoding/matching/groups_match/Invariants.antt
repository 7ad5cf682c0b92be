use Rattle.lj_book.specs.inner.Encoding.{hint_group_in, hint_groups_in, Matches}
use Rattle.lj_book.proofs.encoding.matching.groups_match.Given as goal

abbrev pub invariant-loop-group : goal.invariant-loop-group
invariant-loop-group l = Matches hint_group_in (hint_groups_in l.encoding) l.groups l.rest l.group-iterator
