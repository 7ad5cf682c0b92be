-- The book's formula is the one that it was opened with.
use Rattle.std.proofs.Common.{ap, sym, ◌∙◌, subst}
use Rattle.std.specs.Prelude.{is_some}
use Rattle.lj_clause.specs.Truth.{IsUnsatisfiable}
use Rattle.lj_callers.proofs.books.is_refuted_by.Goals as goal

pub returns : goal.returns
returns c = λ yes. subst IsUnsatisfiable c.loop-addition.invariant
    (c.refuted_is_unsatisfiable.ensures (ap is_some (sym c.verdict.ensures) ∙ (sym c.is_some.ensures ∙ yes)))
