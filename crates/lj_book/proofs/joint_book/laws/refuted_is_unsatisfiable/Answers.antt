use Rattle.std.proofs.Common.{ap, ◌∙◌, subst}
use Rattle.std.specs.Prelude.{is_some, IsSome}
use Rattle.lj_clause.specs.Truth.{IsUnsatisfiable}
use Rattle.lj_book.specs.State.{State, verdict}
use Rattle.lj_book.proofs.BookLaws.{refuted_unsatisfiable}
use Rattle.lj_book.proofs.joint_book.laws.refuted_is_unsatisfiable.Goals as goal

pub returns : goal.returns
returns c =
    let s : State = record { formula = c.book.inside.formula; max_steps = c.book.inside.max_steps; tables = c.book.inside.tables; history = c.book.inside.clause_log.history.entries } in
    subst (λ (t : State). IsSome (verdict t.history) → IsUnsatisfiable t.formula) c.book.view_is
    (λ some. refuted_unsatisfiable s c.book.inside.clause_log.live c.book.inside.added c.book.inside.refuted c.book.invariant (ap is_some c.book.invariant.first_empty ∙ some))
