use Rattle.std.proofs.Common.{subst}
use Rattle.lj_clause.specs.ClauseMap.{formula_map}
use Rattle.lj_text.proofs.StepLaws.{IsSatisfiable-replay}
use Rattle.lj_book.specs.State.{State, steps_of, live}
use Rattle.lj_book.proofs.HistoryLaws.{IsSound, IsSound-reached}
use Rattle.lj_book.proofs.joint_book.laws.live_is_satisfiable.Goals as goal

pub returns : goal.returns
returns c =
    let s = c.args.book.now in
    let sound = subst (λ (t : State). IsSound t) c.book.view_is (IsSound-reached _ c.book.invariant.reached) in
    IsSatisfiable-replay (formula_map s.formula) (live s) (steps_of s.history) sound.replayed
