use Rattle.std.specs.Prelude.{drop}
use Rattle.lj_clause.specs.ClauseMap.{FormulaValue}
use Rattle.lj_book.specs.Solo.{View}
use Rattle.lj_share.specs.inner.Runs.{IsAheadOf}
use Rattle.lj_share.proofs.runs.take_back_run.Given as goal

-- the lines so far are taken back, and the others are ahead
abbrev pub invariant-loop-k : goal.invariant-loop-k
invariant-loop-k l = (f : FormulaValue) (view : View) → IsAheadOf f view (drop l.fn.from l.fn.run) l.fn.kept → IsAheadOf f view (drop l.k l.fn.run) l.kept
