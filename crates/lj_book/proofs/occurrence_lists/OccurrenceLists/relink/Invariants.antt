use Rattle.std.proofs.Common.{◌≡◌, ℕ, take}
use Rattle.lj_book.specs.inner.Occurrences.{list_at}
use Rattle.lj_book.specs.inner.Chains.{with_list}
use Rattle.lj_book.proofs.occurrence_lists.OccurrenceLists.relink.Given as goal

-- the first numbers are there
abbrev pub invariant-loop-number : goal.invariant-loop-number
invariant-loop-number l = (k : ℕ) → list_at l.self k ≡ with_list l.fn.self l.key (take l.number-index l.numbers) k
