use Rattle.std.proofs.Common.{◌≡◌, length, ℕ}
use Rattle.std.specs.Prelude.{vec_capacity}
use Rattle.lj_book.specs.inner.Opened.{opened_slots}
use Rattle.lj_book.proofs.opened.cover.Given as goal

abbrev pub invariant-loop : goal.invariant-loop
invariant-loop l = record {
  same : (n count : ℕ) → opened_slots n l.given_up.items count ≡ opened_slots n l.fn.given_up.items count;
  len : length l.given_up.items ≡ l.counter;
  capacity : vec_capacity l.fn.given_up ≡ vec_capacity l.given_up;
}
