-- The literals of a list, wherever they stand.
use Rattle.std.specs.Prelude.{ℤ, List, [], take}
use Rattle.std.specs.Arc.{arc_value}
use Rattle.lj_clause.specs.declared.literal_list.LiteralList.{LiteralList}
use Rattle.lj_clause.specs.declared.literal_list.LiteralList.TheVariants as lists

abbrev pub literals_in : LiteralList → List ℤ
literals_in lists.Nothing = []
literals_in (lists.Inline count lits) = take count lits
literals_in (lists.Eight count lits) = take count (arc_value lits)
literals_in (lists.Sixteen count lits) = take count (arc_value lits)
literals_in (lists.Many lits) = (arc_value lits).items
