use Rattle.std.proofs.Common.{◌≡◌, false, take}
use Rattle.std.specs.Prelude.{neg_ℤ, not, ◌&&◌}
use Rattle.std.specs.List.{list_any}
use Rattle.lj_clause.specs.LiteralSet.{holds}
use Rattle.lj_book.specs.Variables.{renaming_of}
use Rattle.lj_book.specs.inner.Limits.{is_known}
use Rattle.lj_book.proofs.joint_forms.closes_at_once.Given as goal

abbrev pub invariant-loop-lit : goal.invariant-loop-lit
invariant-loop-lit l = list_any (λ k. not (is_known l.variables.top (renaming_of l.variables.variables l.seat) k) && holds l.clause (neg_ℤ k)) (take l.lit-index l.lit-items) ≡ false
