-- The own numbers of tables.
use Rattle.std.specs.Prelude.{ℕ, List, [], Option, Some, None}
use Rattle.std.specs.FinMap as fin
use Rattle.lj_book.specs.Tables.{Table}

-- the own numbers of the table, rising
abbrev pub own_numbers : Option Table → List ℕ
own_numbers None = []
own_numbers (Some t) = fin.keys t
