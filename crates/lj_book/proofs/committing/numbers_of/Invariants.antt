use Rattle.std.specs.Prelude.{◌≡◌, take}
use Rattle.lj_hint.specs.Hints.{numbers}
use Rattle.lj_book.proofs.committing.numbers_of.Given as goal

abbrev pub invariant-loop-pair : goal.invariant-loop-pair
invariant-loop-pair l = l.list ≡ numbers (take l.pair-index l.pairs)
