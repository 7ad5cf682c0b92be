use Rattle.std.proofs.Common.{◌≡◌, ◌-◌}
use Rattle.lj_book.specs.inner.Encoding.{number_in, list_in, many_in}
use Rattle.lj_book.proofs.encoding.reading.behind_list.Given as goal

abbrev pub invariant-loop : goal.invariant-loop
invariant-loop l = (many_in number_in (l.count - l.counter) l.rest).1 ≡ (list_in l.encoding).1
