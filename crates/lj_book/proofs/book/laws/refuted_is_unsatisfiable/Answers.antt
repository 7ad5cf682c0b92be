use Rattle.std.proofs.Common.{ap, sym, ◌∙◌, subst}
use Rattle.std.specs.Prelude.{is_some, IsSome}
use Rattle.lj_clause.specs.Truth.{IsUnsatisfiable}
use Rattle.lj_book.specs.State.{State, verdict}
use Rattle.lj_book.specs.Named.{NamedState}
use Rattle.lj_book.proofs.OverLaws.{verdict-over}
use Rattle.lj_book.proofs.book.laws.refuted_is_unsatisfiable.Goals as goal

pub returns : goal.returns
returns c =
    let j : State = c.book.inside.joint in
    subst (λ (s : NamedState). IsSome (verdict s.history) → IsUnsatisfiable s.formula) c.book.view_is
    (λ some. c.refuted_is_unsatisfiable.ensures (ap is_some (sym (verdict-over c.book.inside.variables.variables 0 j.history)) ∙ some))
