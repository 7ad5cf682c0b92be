use Rattle.std.proofs.Common.{◌≡◌, false, take}
use Rattle.std.specs.Prelude.{pos, neg_ℤ, int_lt, ◌&&◌}
use Rattle.std.specs.List.{list_any}
use Rattle.lj_clause.specs.LiteralSet.{holds}
use Rattle.lj_book.proofs.part.is_contradictory.Given as goal

abbrev pub invariant-loop-lit : goal.invariant-loop-lit
invariant-loop-lit l = list_any (λ k. int_lt (pos 0) k && holds l.clause (neg_ℤ k)) (take l.lit-index l.lit-items) ≡ false
