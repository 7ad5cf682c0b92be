use Rattle.std.proofs.Common.{sym, subst}
use Rattle.lj_clause.specs.ClauseMap.{formula_map}
use Rattle.lj_clause.specs.Truth.{IsSatisfiable}
use Rattle.lj_book.specs.State.{State, live}
use Rattle.lj_book.specs.Named.{NamedState, beneath}
use Rattle.lj_book.proofs.book.laws.live_is_satisfiable.Goals as goal

pub returns : goal.returns
returns c =
    subst (λ (s : NamedState). IsSatisfiable (formula_map s.formula) → IsSatisfiable (live (beneath s))) c.book.view_is
    (λ some. subst (λ (u : State). IsSatisfiable (live u)) (sym c.book.invariant.below) (c.live_is_satisfiable.ensures some))
