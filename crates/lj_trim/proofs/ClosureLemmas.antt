-- What the marks of a whole run of passes are.
use Rattle.std.proofs.Common.{◌≡◌, ℕ, List, length, arith}
use Rattle.std.specs.List.{AllByRecursion}
use Rattle.std.specs.FinMap as fin
use Rattle.std.specs.Cmp.{both_ways}
use Rattle.lj_text.specs.declared.step.Step.{Step}
use Rattle.lj_text.specs.Needed.{has, with_numbers, additions, empty_numbers}
use Rattle.lj_text.proofs.NeededLaws.{Closes, closes, has_all-with_numbers, all_in_part, with_numbers_where, closure_where, no_numbers}
use Rattle.lj_trim.specs.declared.marks.Marks.{Marks}
use Rattle.lj_trim.specs.inner.Marks.{is_marked, AreMarked, IsWithin, HasAll, IsCovered, Covers}
use Rattle.lj_trim.specs.inner.Front.{needed_in}

needed-closes : (steps : List Step) → Closes (with_numbers fin.empty (empty_numbers steps)) (needed_in steps) (additions steps)
needed-closes steps = closes (length (additions steps)) (with_numbers fin.empty (empty_numbers steps)) (additions steps) (omega arith)

pub needed-empty : (steps : List Step) → HasAll (needed_in steps) (empty_numbers steps)
needed-empty steps =
    let first = with_numbers fin.empty (empty_numbers steps) in
    all_in_part first (needed_in steps) (empty_numbers steps) (needed-closes steps).part (has_all-with_numbers fin.empty (empty_numbers steps))

pub needed-covers : (steps : List Step) → AllByRecursion (Covers (needed_in steps)) (additions steps)
needed-covers steps = (needed-closes steps).covers

-- marks within the needed numbers that hold those of the empty clause and cover each addition are the needed numbers
pub marked-needed : (steps : List Step) (m : Marks) → AreMarked m (empty_numbers steps) → IsWithin m (needed_in steps) → AllByRecursion (IsCovered m) (additions steps) → (n : ℕ) → is_marked m n ≡ has (needed_in steps) n
marked-needed steps m first within cover n =
    let adds = additions steps in
    both_ways (is_marked m n) (has (needed_in steps) n) (within n)
    (closure_where (length adds) (with_numbers fin.empty (empty_numbers steps)) (is_marked m) adds (with_numbers_where fin.empty (is_marked m) (empty_numbers steps) (no_numbers (is_marked m)) first) cover n)
