use Rattle.std.proofs.Common.{◌≡◌, false, take}
use Rattle.std.specs.List.{list_any}
use Rattle.lj_text.specs.Steps.{adds_empty}
use Rattle.lj_trim.proofs.needed.first_empty.Given as goal

-- none of the first steps adds the empty clause
abbrev pub invariant-loop-position : goal.invariant-loop-position
invariant-loop-position l = list_any adds_empty (take l.position l.steps) ≡ false
