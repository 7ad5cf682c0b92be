use Rattle.std.proofs.Common.{◌≤◌, length}
use Rattle.lj_book.proofs.occurrence_lists.length_within.Given as goal

abbrev pub invariant-loop-length : goal.invariant-loop-length
invariant-loop-length l = l.at ≤ length l.links
