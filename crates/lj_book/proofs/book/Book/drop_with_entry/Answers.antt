use Rattle.std.proofs.Common.{◌≡◌, ap, refl, ◌∙◌, subst}
use Rattle.std.specs.Prelude.{if◌then◌else◌, Option, Some, None, Err, IfOk, IfErr}
use Rattle.std.proofs.lemmas.Result.{on_ok_weaker, on_err_weaker}
use Rattle.lj_book.specs.declared.entry.Dropped.{Dropped}
use Rattle.lj_book.specs.declared.entry.Entry.{Entry}
use Rattle.lj_book.specs.State.{State}
use Rattle.lj_book.specs.Calls.{IsReplyBy, drop_entry, drop_reply}
use Rattle.lj_book.specs.Named.{named_over, after_named}
use Rattle.lj_book.proofs.OverLaws.{under, on_ok, over_answered, left_answered}
use Rattle.lj_book.proofs.book.Book.drop_with_entry.Goals as goal

pub invariant_of-self : goal.invariant_of-self
invariant_of-self c =
    over_answered c.drop_numbers-told.result c.self.inside.joint c.drop_numbers-told.new.self c.self.inside.variables (drop_entry c.self.inside.joint c.args.seat c.args.numbers.now) c.self.invariant c.history_is_legal.ensures
    (on_ok c.drop_numbers-told.result tt) refl c.drop_numbers-told.ensures.ok c.drop_numbers-told.ensures.err

pub returns-clause-reply : goal.returns-clause-reply
returns-clause-reply c = subst (λ (j : State). IsReplyBy (λ (told : Dropped × Option Entry). told.0) c.drop_numbers-told.result (drop_reply j c.args.seat c.args.numbers.now)) (under _ _ _ c.self.invariant c.self.view_is) c.drop_numbers-told.ensures.reply

pub returns-clause-refused : goal.returns-clause-refused
returns-clause-refused c = subst (λ (j : State). IfErr (drop_reply j c.args.seat c.args.numbers.now) (λ e. c.drop_numbers-told.result ≡ Err e)) (under _ _ _ c.self.invariant c.self.view_is) c.drop_numbers-told.ensures.refused

pub returns-clause-told : goal.returns-clause-told
returns-clause-told c = subst (λ (j : State). IfOk c.drop_numbers-told.result (λ told. told.1 ≡ (if c.args.wanted then Some (drop_entry j c.args.seat c.args.numbers.now) else None))) (under _ _ _ c.self.invariant c.self.view_is) c.drop_numbers-told.ensures.told

pub returns-clause-ok : goal.returns-clause-ok
returns-clause-ok c =
    let below = under _ _ _ c.self.invariant c.self.view_is in
    on_ok_weaker c.drop_numbers-told.result (λ e. e ∙ (λ i. after_named (c.self.view_is i) (drop_entry (below i) c.args.seat c.args.numbers.now)))
    (left_answered c.drop_numbers-told.result c.self.inside.joint c.drop_numbers-told.new.self c.self.inside.variables (drop_entry c.self.inside.joint c.args.seat c.args.numbers.now) c.self.invariant c.history_is_legal.ensures
    (on_ok c.drop_numbers-told.result tt) refl c.drop_numbers-told.ensures.ok c.drop_numbers-told.ensures.err)

pub returns-clause-err : goal.returns-clause-err
returns-clause-err c = on_err_weaker c.drop_numbers-told.result (λ e. ap (λ (j : State). named_over j c.self.inside.variables.variables) e ∙ c.self.view_is) c.drop_numbers-told.ensures.err
