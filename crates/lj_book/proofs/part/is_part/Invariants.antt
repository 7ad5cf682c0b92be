use Rattle.std.proofs.Common.{◌≡◌, true, take}
use Rattle.std.specs.List.{list_all}
use Rattle.lj_clause.specs.LiteralSet.{holds}
use Rattle.lj_book.proofs.part.is_part.Given as goal

abbrev pub invariant-loop-lit : goal.invariant-loop-lit
invariant-loop-lit l = list_all (holds l.whole) (take l.lit-index l.lit-items) ≡ true
