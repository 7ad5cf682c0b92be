use Rattle.std.proofs.Common.{◌≡◌, ◌∷◌, ◌++◌, length}
use Rattle.lj_text.proofs.groups.put_group.Given as goal

abbrev pub invariant-loop-hint : goal.invariant-loop-hint
invariant-loop-hint l = record {
  put : l.numbers ≡ l.fn.numbers ++ l.candidate ∷ length l.fn.hints ∷ l.yielded;
  left : l.fn.hints ≡ l.yielded ++ l.hint-iterator;
}
