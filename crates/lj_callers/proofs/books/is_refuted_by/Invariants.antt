use Rattle.std.specs.Prelude.{◌≡◌}
use Rattle.lj_callers.proofs.books.is_refuted_by.Given as goal

-- the book is still that of the formula
abbrev pub invariant-loop-addition : goal.invariant-loop-addition
invariant-loop-addition l = l.book.formula ≡ l.fn.formula
