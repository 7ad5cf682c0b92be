use Rattle.std.proofs.Common.{◌≡◌, ◌++◌, true}
use Rattle.std.specs.Prelude.{drop}
use Rattle.lj_book.specs.inner.Slots.{slot_numbers}
use Rattle.lj_book.specs.inner.Opened.{opened_slots}
use Rattle.lj_book.proofs.opened.keys_of.Given as goal

abbrev pub invariant-loop-at : goal.invariant-loop-at
invariant-loop-at l = l.keys.items ++ slot_numbers (λ _. true) l.at (drop l.at (opened_slots 0 l.given_up l.end)) ≡ slot_numbers (λ _. true) 0 (opened_slots 0 l.given_up l.end)
