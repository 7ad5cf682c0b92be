use Rattle.std.proofs.Common.{◌≡◌, ◌-◌}
use Rattle.lj_book.specs.inner.Encoding.{number_in, list_in, many_in, read_behind}
use Rattle.lj_book.proofs.encoding.reading.list.Given as goal

-- the list so far, and what is read behind it, are the whole list
abbrev pub invariant-loop : goal.invariant-loop
invariant-loop l = read_behind l.list (many_in number_in (l.count - l.counter) l.rest) ≡ list_in l.encoding
