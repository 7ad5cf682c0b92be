use Rattle.std.proofs.Common.{ap, sym, ◌∙◌, subst}
use Rattle.std.specs.Prelude.{Result}
use Rattle.lj_hint.specs.Case.{CaseValue}
use Rattle.lj_book.specs.declared.refusal.Refusal.{Refusal}
use Rattle.lj_book.specs.State.{State}
use Rattle.lj_book.specs.Calls.{IsReply, take_reply}
use Rattle.lj_book.proofs.TakeLaws.{take_is}
use Rattle.lj_book.proofs.joint_book.JointBook.take.Goals as goal

pub returns-clause-reply : goal.returns-clause-reply
returns-clause-reply c =
    let s : State = record { formula = c.self.inside.formula; max_steps = c.self.inside.max_steps; tables = c.self.inside.tables; history = c.self.inside.clause_log.history.entries } in
    let a = c.args.addition.now in
    subst (λ (r : Result CaseValue Refusal). IsReply c.case_of.result r)
    (take_is s c.self.inside.clause_log.live c.args.seat a (sym c.is_here.ensures ∙ c.if-not-is_here.false) (sym c.is_bound.ensures ∙ c.if-is_bound.false) c.self.invariant.lives ∙ ap (λ (t : State). take_reply t c.args.seat a) c.self.view_is)
    c.case_of.ensures
