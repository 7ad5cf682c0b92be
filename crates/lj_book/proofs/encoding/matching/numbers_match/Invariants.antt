use Rattle.std.proofs.Common.{drop}
use Rattle.lj_book.specs.inner.Encoding.{number_in, list_in, Matches}
use Rattle.lj_book.proofs.encoding.matching.numbers_match.Given as goal

abbrev pub invariant-loop-wanted : goal.invariant-loop-wanted
invariant-loop-wanted l = Matches number_in (list_in l.encoding) l.numbers l.rest (drop l.wanted-index l.numbers)
