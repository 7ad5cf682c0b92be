-- The closed book is that of the opening's formula.
use Rattle.std.proofs.Common.{ap, sym, ◌∙◌, subst}
use Rattle.std.specs.Prelude.{is_some}
use Rattle.lj_clause.specs.Truth.{IsUnsatisfiable}
use Rattle.lj_book.specs.Named.{NamedState}
use Rattle.lj_callers.proofs.sharing.is_refuted.Goals as goal

pub returns-in-Ok : goal.returns-in-Ok
returns-in-Ok g c = λ yes. subst IsUnsatisfiable
    (ap (λ (s : NamedState). s.formula) c.book-book.ensures.book ∙ c.book-book.ensures.opened.formula_is)
    (c.refuted_is_unsatisfiable.ensures (ap is_some (sym c.verdict.ensures) ∙ (sym c.is_some.ensures ∙ yes)))
