use Rattle.std.proofs.Common.{◌≡◌, ℕ, cond}
use Rattle.std.specs.Prelude.{None, nat_le}
use Rattle.std.specs.FinMap as fin
use Rattle.lj_clause.specs.ClauseMap.{formula_map}
use Rattle.lj_book.proofs.stored_clauses.all_stored.Given as goal

abbrev pub invariant-loop-number : goal.invariant-loop-number
invariant-loop-number l = (q : ℕ) → fin.get l.clauses q ≡ cond (nat_le q l.number) (fin.get (formula_map l.formula) q) None
