use Rattle.std.proofs.Common.{◌≡◌, map, take}
use Rattle.lj_clause.specs.Renaming.{literal_image}
use Rattle.lj_clause.proofs.renames.renamed_lits.Given as goal

abbrev pub invariant-loop-lit : goal.invariant-loop-lit
invariant-loop-lit g l = l.all.items ≡ map (literal_image (g.R.Renames.renaming l.renaming)) (take l.lit-index l.lits)
