use Rattle.std.proofs.Common.{◌≡◌, map, take}
use Rattle.lj_hint.specs.Images.{pair_image}
use Rattle.lj_hint.proofs.pair.renamed_pairs.Given as goal

abbrev pub invariant-loop-pair : goal.invariant-loop-pair
invariant-loop-pair g l = l.all.items ≡ map (pair_image (g.R.Renames.renaming l.renaming)) (take l.pair-index l.pairs)
