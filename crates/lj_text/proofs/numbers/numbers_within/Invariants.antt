use Rattle.std.proofs.Common.{◌≡◌, ◌≤◌, take, drop}
use Rattle.lj_text.specs.inner.ShortNumbers.{AreNumbersAhead}
use Rattle.lj_text.specs.inner.Windows.{others_from}
use Rattle.lj_text.proofs.numbers.numbers_within.Given as goal

abbrev pub invariant-loop-others : goal.invariant-loop-others
invariant-loop-others l = AreNumbersAhead l.fn.numbers.items l.window l.numbers.items (drop l.start l.window) × (l.start ≤ 65) × (l.others ≡ others_from (take 64 l.window) l.start)

abbrev pub decreases-loop-others : goal.decreases-loop-others
decreases-loop-others l = l.others
