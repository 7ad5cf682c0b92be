use Rattle.std.proofs.Common.{◌≡◌, ℕ, length}
use Rattle.lj_book.specs.inner.Holders.{slot_count}
use Rattle.lj_book.proofs.counts.cover.Given as goal

abbrev pub invariant-loop : goal.invariant-loop
invariant-loop l = ((q : ℕ) → slot_count l.slots.items q ≡ slot_count l.fn.slots.items q) × (length l.slots.items ≡ l.counter)
