use Rattle.std.proofs.Common.{◌≡◌, true, take}
use Rattle.std.specs.List.{list_all}
use Rattle.lj_clause.specs.LiteralSet.{holds}
use Rattle.lj_clause.specs.Renaming.{literal_image}
use Rattle.lj_book.proofs.variable_table.forms.all_held.Given as goal

abbrev pub invariant-loop-lit : goal.invariant-loop-lit
invariant-loop-lit g l = list_all (λ k. holds l.clause (literal_image (g.R.Renames.renaming l.renaming) k)) (take l.lit-index l.lits) ≡ true
