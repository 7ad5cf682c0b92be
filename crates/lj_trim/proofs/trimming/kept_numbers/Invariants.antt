use Rattle.std.proofs.Common.{◌≡◌, ◌++◌}
use Rattle.std.specs.Prelude.{filter}
use Rattle.lj_trim.specs.inner.Trimmed.{keeps}
use Rattle.lj_trim.proofs.trimming.kept_numbers.Given as goal

-- the first numbers are done
abbrev pub invariant-loop-number : goal.invariant-loop-number
invariant-loop-number l = record {
  kept : l.kept.items ≡ filter (keeps l.clauses l.marks) l.yielded;
  left : l.numbers ≡ l.yielded ++ l.number-iterator;
}
