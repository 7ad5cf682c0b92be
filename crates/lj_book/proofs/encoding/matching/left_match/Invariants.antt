use Rattle.lj_book.specs.inner.Encoding.{number_in, list_in, Matches}
use Rattle.lj_book.proofs.encoding.matching.left_match.Given as goal

abbrev pub invariant-loop-wanted : goal.invariant-loop-wanted
invariant-loop-wanted l = Matches number_in (list_in l.encoding) l.fn.numbers l.rest l.wanted-iterator
