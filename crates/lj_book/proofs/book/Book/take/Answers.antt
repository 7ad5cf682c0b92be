use Rattle.std.proofs.Common.{ap, sym, ◌∙◌, subst}
use Rattle.std.specs.Prelude.{Result, Ok}
use Rattle.lj_clause.specs.Renaming.{Renaming, inverse}
use Rattle.lj_hint.specs.Case.{CaseValue}
use Rattle.lj_hint.specs.Images.{hints_image}
use Rattle.lj_book.specs.declared.refusal.Refusal.{Refusal}
use Rattle.lj_book.specs.Calls.{IsReply}
use Rattle.lj_book.specs.Variables.{renaming_of}
use Rattle.lj_book.specs.NamedViews.{take_image}
use Rattle.lj_book.proofs.OverLaws.{take_unmoved, take_refused, take_renamed, passed_on}
use Rattle.lj_book.proofs.book.Book.take.Goals as goal

pub returns-then-not-is_any_given-clause-reply : goal.returns-then-not-is_any_given-clause-reply
returns-then-not-is_any_given-clause-reply c =
    subst (λ (r : Result CaseValue Refusal). IsReply c.take.result r)
    (take_unmoved c.self.inside.joint c.self.inside.variables c.args.self.now c.self.invariant c.self.view_is c.args.seat c.args.addition.now (c.is_any_given.ensures c.if-not-is_any_given.true c.args.seat))
    c.take.ensures.reply

pub returns-in_err-case-clause-reply : goal.returns-in_err-case-clause-reply
returns-in_err-case-clause-reply c =
    passed_on c.from_residual.result _ _ c.from_residual.ensures.1
    (take_refused c.self.inside.joint c.self.inside.variables c.args.self.now c.self.invariant c.self.view_is c.args.seat c.args.addition.now _ c.in_err-case.ensures.reply)

pub returns-clause-reply : goal.returns-clause-reply
returns-clause-reply c =
    let m : Renaming = inverse (renaming_of c.self.inside.variables.variables c.args.seat) in
    sym (take_renamed c.self.inside.joint c.self.inside.variables c.args.self.now c.self.invariant c.self.view_is c.args.seat c.args.addition.now)
    ∙ ap (take_image m) c.in_ok-case.ensures.reply
    ∙ ap (λ (d : CaseValue). Ok d)
    (sym (c.in_ok-rename_hints.ensures.ok ∙ (λ i. hints_image (inverse (renaming_of (c.to_own.ensures.0 i).variables (c.to_own.ensures.1 i))) c.in_ok-case.case)))
