use Rattle.std.proofs.Common.{map, vec_len}
use Rattle.std.specs.List.{AllByRecursion}
use Rattle.lj_text.specs.Needed.{additions, empty_numbers}
use Rattle.lj_trim.specs.declared.marks.Marks.{Marks}
use Rattle.lj_trim.specs.inner.Marks.{AreMarked, IsWithin, Grows, IsCovered, Covers}
use Rattle.lj_trim.specs.inner.Front.{needed_in, lent_addition}
use Rattle.lj_trim.proofs.needed.needed_marks.Given as goal

-- What is marked is needed, and what was done stays done.
abbrev pub invariant-loop-begun : goal.invariant-loop-begun
invariant-loop-begun l = record {
  first : AreMarked l.marks (empty_numbers l.steps);
  within : IsWithin l.marks (needed_in l.steps);
  covers : AllByRecursion (Covers (needed_in l.steps)) (map lent_addition l.begun.items);
  closes : (m : Marks) → Grows l.marks m → AllByRecursion (IsCovered m) (map lent_addition l.begun.items) → AllByRecursion (IsCovered m) (additions l.steps);
}

abbrev pub decreases-loop-begun : goal.decreases-loop-begun
decreases-loop-begun l = vec_len l.begun
