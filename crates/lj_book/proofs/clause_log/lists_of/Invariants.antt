use Rattle.lj_book.specs.inner.Occurrences.{AreOccurrences}
use Rattle.lj_book.proofs.OccurrenceLaws.{clauses_below}
use Rattle.lj_book.proofs.clause_log.lists_of.Given as goal

abbrev pub invariant-loop-number : goal.invariant-loop-number
invariant-loop-number l = AreOccurrences l.lists (clauses_below l.clauses l.number) l.number
