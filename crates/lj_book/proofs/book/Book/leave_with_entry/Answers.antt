use Rattle.std.proofs.Common.{◌≡◌, ap, refl, ◌∙◌, subst, ℕ}
use Rattle.std.specs.Prelude.{Err, IfOk, IfErr}
use Rattle.std.proofs.lemmas.Result.{on_ok_weaker, on_err_weaker}
use Rattle.lj_book.specs.declared.entry.Entry.{Entry}
use Rattle.lj_book.specs.State.{State}
use Rattle.lj_book.specs.Calls.{IsReplyBy, leave_entry, leave_reply}
use Rattle.lj_book.specs.Named.{named_over, after_named}
use Rattle.lj_book.proofs.OverLaws.{under, on_ok, over_answered, left_answered}
use Rattle.lj_book.proofs.book.Book.leave_with_entry.Goals as goal

pub invariant_of-self : goal.invariant_of-self
invariant_of-self c =
    over_answered c.leave-told.result c.self.inside.joint c.leave-told.new.self c.self.inside.variables (leave_entry c.self.inside.joint c.args.seat) c.self.invariant c.history_is_legal.ensures
    (on_ok c.leave-told.result tt) refl c.leave-told.ensures.ok c.leave-told.ensures.err

pub returns-clause-reply : goal.returns-clause-reply
returns-clause-reply c = subst (λ (j : State). IsReplyBy (λ (told : ℕ × Entry). told.0) c.leave-told.result (leave_reply j c.args.seat)) (under _ _ _ c.self.invariant c.self.view_is) c.leave-told.ensures.reply

pub returns-clause-refused : goal.returns-clause-refused
returns-clause-refused c = subst (λ (j : State). IfErr (leave_reply j c.args.seat) (λ e. c.leave-told.result ≡ Err e)) (under _ _ _ c.self.invariant c.self.view_is) c.leave-told.ensures.refused

pub returns-clause-told : goal.returns-clause-told
returns-clause-told c = subst (λ (j : State). IfOk c.leave-told.result (λ told. told.1 ≡ leave_entry j c.args.seat)) (under _ _ _ c.self.invariant c.self.view_is) c.leave-told.ensures.told

pub returns-clause-ok : goal.returns-clause-ok
returns-clause-ok c =
    let below = under _ _ _ c.self.invariant c.self.view_is in
    on_ok_weaker c.leave-told.result (λ e. e ∙ (λ i. after_named (c.self.view_is i) (leave_entry (below i) c.args.seat)))
    (left_answered c.leave-told.result c.self.inside.joint c.leave-told.new.self c.self.inside.variables (leave_entry c.self.inside.joint c.args.seat) c.self.invariant c.history_is_legal.ensures
    (on_ok c.leave-told.result tt) refl c.leave-told.ensures.ok c.leave-told.ensures.err)

pub returns-clause-err : goal.returns-clause-err
returns-clause-err c = on_err_weaker c.leave-told.result (λ e. ap (λ (j : State). named_over j c.self.inside.variables.variables) e ∙ c.self.view_is) c.leave-told.ensures.err
