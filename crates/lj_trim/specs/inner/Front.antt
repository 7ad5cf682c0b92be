-- What steps need whose additions of the empty clause end the list.
use Rattle.std.specs.Prelude.{ℕ, List, [], length, if◌then◌else◌}
use Rattle.std.specs.Borrow.{Bor}
use Rattle.std.specs.FinMap as fin
use Rattle.lj_text.specs.declared.line.Addition.{Addition}
use Rattle.lj_text.specs.declared.step.Step.{Step}
use Rattle.lj_text.specs.Needed.{NumberSet, with_numbers, additions, empty_numbers, closure, added_number}
use Rattle.lj_text.specs.Steps.{adds_empty}

-- the numbers of the additions of the empty clause and, with that of each addition, all its hints
abbrev pub needed_in : List Step → NumberSet
needed_in steps = let adds = additions steps in closure (length adds)
    (with_numbers fin.empty (empty_numbers steps)) adds

-- the number of a step that adds the empty clause
abbrev pub empty_number_of : Step → List ℕ
empty_number_of s = if adds_empty s then added_number s else []

-- the addition behind a reference
abbrev pub lent_addition : Bor Addition → Addition
lent_addition a = a.now
