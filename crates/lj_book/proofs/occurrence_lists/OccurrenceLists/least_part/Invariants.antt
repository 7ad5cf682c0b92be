use Rattle.std.proofs.Common.{◌≡◌, ℕ, take}
use Rattle.std.specs.FinMap as fin
use Rattle.lj_book.specs.inner.Occurrences.{AreOccurrences}
use Rattle.lj_book.specs.inner.Parts.{least_begun}
use Rattle.lj_book.proofs.occurrence_lists.OccurrenceLists.least_part.Given as goal

abbrev pub invariant-loop-lit : goal.invariant-loop-lit
invariant-loop-lit l = (bound : ℕ) → AreOccurrences l.self (fin.get l.clauses) bound → l.least ≡ least_begun l.clauses l.wanted (take l.lit-index l.lit-items)
