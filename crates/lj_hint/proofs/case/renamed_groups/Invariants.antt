use Rattle.std.proofs.Common.{◌≡◌, map, take}
use Rattle.lj_hint.specs.Case.{groups_of}
use Rattle.lj_hint.specs.Images.{hinted_image}
use Rattle.lj_hint.proofs.case.renamed_groups.Given as goal

abbrev pub invariant-loop-group : goal.invariant-loop-group
invariant-loop-group g l = groups_of l.all.items ≡ map (hinted_image (g.R.Renames.renaming l.renaming)) (groups_of (take l.group-index l.groups))
