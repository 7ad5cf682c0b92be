use Rattle.std.specs.Prelude.{drop}
use Rattle.lj_clause.specs.ClauseMap.{FormulaValue}
use Rattle.lj_book.specs.Solo.{View}
use Rattle.lj_share.specs.inner.Runs.{IsAheadOf, views_behind}
use Rattle.lj_share.proofs.runs.finish_run.Given as goal

-- the lines so far are finished, and the others are ahead
abbrev pub invariant-loop-k : goal.invariant-loop-k
invariant-loop-k l = (f : FormulaValue) (view : View) → IsAheadOf f view l.fn.run l.fn.kept → IsAheadOf f (views_behind view l.fn.run l.fn.joints l.k) (drop l.k l.fn.run) l.kept
