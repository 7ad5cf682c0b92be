use Rattle.std.proofs.Common.{◌≡◌, ap, sym, ◌∙◌, subst}
use Rattle.std.specs.Prelude.{Some}
use Rattle.lj_clause.specs.ClauseMap.{formula_map}
use Rattle.lj_text.specs.Steps.{replay}
use Rattle.lj_book.specs.State.{State, live, steps_of}
use Rattle.lj_book.specs.Named.{NamedState, beneath}
use Rattle.lj_book.proofs.OverLaws.{steps-over}
use Rattle.lj_book.proofs.book.laws.live_is_the_replay.Goals as goal

pub returns : goal.returns
returns c =
    let j : State = c.book.inside.joint in
    subst (λ (s : NamedState). replay (formula_map s.formula) (steps_of s.history) ≡ Some (live (beneath s))) c.book.view_is
    ((λ i. replay (formula_map j.formula) (steps-over c.book.inside.variables.variables j.history i))
    ∙ c.live_is_the_replay.ensures ∙ ap (λ (u : State). Some (live u)) (sym c.book.invariant.below))
