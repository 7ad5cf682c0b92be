use Rattle.std.proofs.Common.{◌≡◌, ◌+◌, ◌++◌, drop}
use Rattle.std.specs.Prelude.{map}
use Rattle.lj_book.proofs.seat_table.put_greater.Given as goal

-- the keys so far, and those to come, are all
abbrev pub invariant-loop-number : goal.invariant-loop-number
invariant-loop-number l = l.keys.items ++ map (λ n. l.by + n) (drop l.number-index l.numbers) ≡ l.fn.keys.items ++ map (λ n. l.by + n) l.numbers
