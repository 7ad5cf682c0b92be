use Rattle.std.specs.Prelude.{◌≡◌, length, map}
use Rattle.lj_share.proofs.opening_parts.OpeningParts.new.Given as goal

-- as many copies as turns, under the same names
abbrev pub invariant-loop-seat : goal.invariant-loop-seat
invariant-loop-seat l = record {
  named : map (λ c. c.name) l.locked_book.items ≡ map (λ c. c.name) l.copies.items;
  many : length l.copies.items ≡ l._seat;
}
