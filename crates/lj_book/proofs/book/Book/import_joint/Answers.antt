use Rattle.std.proofs.Common.{◌≡◌, ap, ◌∙◌, subst}
use Rattle.std.specs.Prelude.{Option, Some, None, Result, Err, IfErr, IfOk, if◌then◌else◌}
use Rattle.std.proofs.lemmas.Result.{on_err_weaker}
use Rattle.lj_text.specs.declared.step.Step.{Step}
use Rattle.lj_book.specs.declared.entry.Call.TheVariants as calls
use Rattle.lj_book.specs.declared.entry.Imported.{Imported}
use Rattle.lj_book.specs.declared.refusal.Refusal.{Refusal}
use Rattle.lj_book.specs.State.{State}
use Rattle.lj_book.specs.Calls.{IsReplyBy}
use Rattle.lj_book.specs.Named.{named_over}
use Rattle.lj_book.proofs.OverLaws.{import_alike, step_alike, import_over, import_left}
use Rattle.lj_book.proofs.book.Book.import_joint.Goals as goal

pub invariant_of-self : goal.invariant_of-self
invariant_of-self c =
    import_over c.self.inside.joint c.self.inside.variables c.args.self.now c.self.invariant c.self.view_is c.args.seat c.args.own c.args.clause.now c.args.joint.now c.requires.named c.requires.joint
    c.import-told.result c.import-told.new.self c.history_is_legal.ensures c.import-told.ensures.ok c.import-told.ensures.err

pub returns-clause-reply : goal.returns-clause-reply
returns-clause-reply c =
    subst (λ (r : Result Imported Refusal). IsReplyBy (λ told. told.0) c.import-told.result r)
    (import_alike c.self.inside.joint c.self.inside.variables c.args.self.now c.self.invariant c.self.view_is c.args.seat c.args.own c.args.clause.now c.args.joint.now c.requires.named c.requires.joint)
    c.import-told.ensures.reply

pub returns-clause-refused : goal.returns-clause-refused
returns-clause-refused c =
    subst (λ (r : Result Imported Refusal). IfErr r (λ e. c.import-told.result ≡ Err e))
    (import_alike c.self.inside.joint c.self.inside.variables c.args.self.now c.self.invariant c.self.view_is c.args.seat c.args.own c.args.clause.now c.args.joint.now c.requires.named c.requires.joint)
    c.import-told.ensures.refused

pub returns-clause-told : goal.returns-clause-told
returns-clause-told c =
    subst (λ (o : Option Step). IfOk c.import-told.result (λ told. told.1 ≡ (if c.args.wanted then Some (record { seat = c.args.seat; call = calls.Import c.args.own c.args.clause.now; step = o }) else None)))
    (step_alike c.self.inside.joint c.self.inside.variables c.args.self.now c.self.invariant c.self.view_is c.args.seat c.args.own c.args.clause.now c.args.joint.now c.requires.named c.requires.joint)
    c.import-told.ensures.told

pub returns-clause-ok : goal.returns-clause-ok
returns-clause-ok c =
    import_left c.self.inside.joint c.self.inside.variables c.args.self.now c.self.invariant c.self.view_is c.args.seat c.args.own c.args.clause.now c.args.joint.now c.requires.named c.requires.joint
    c.import-told.result c.import-told.new.self c.history_is_legal.ensures c.import-told.ensures.ok c.import-told.ensures.err

pub returns-clause-err : goal.returns-clause-err
returns-clause-err c = on_err_weaker c.import-told.result (λ e. ap (λ (j : State). named_over j c.self.inside.variables.variables) e ∙ c.self.view_is) c.import-told.ensures.err
