use Rattle.std.proofs.Common.{◌≡◌, ◌∙◌, subst}
use Rattle.std.specs.Prelude.{if◌then◌else◌, Option, Some, None, IfOk}
use Rattle.std.proofs.lemmas.Result.{on_ok_weaker}
use Rattle.lj_book.specs.declared.entry.Added.{Added}
use Rattle.lj_book.specs.declared.entry.Entry.{Entry}
use Rattle.lj_book.specs.Calls.{IsReplyBy}
use Rattle.lj_book.specs.Named.{NamedState, named_over, after_named}
use Rattle.lj_book.specs.NamedReplies.{named_inside}
use Rattle.lj_book.specs.NamedInside.{named_inside_entry}
use Rattle.lj_book.proofs.InsideOver.{over_either, left_either}
use Rattle.lj_book.proofs.book.Book.add_closed_with_entry.Goals as goal

pub invariant_of-self : goal.invariant_of-self
invariant_of-self c =
    over_either c.close_named.result c.self.inside.joint c.close_named.new.joint c.self.inside.variables c.close_named.new.variables (named_inside_entry (named_over c.self.inside.joint c.self.inside.variables.variables) c.args.seat c.args.addition.now) c.self.invariant c.close_named.ensures.ok c.close_named.ensures.err

pub returns-clause-reply : goal.returns-clause-reply
returns-clause-reply c = subst (λ (s : NamedState). IsReplyBy (λ (told : Added × Option Entry). told.0) c.close_named.result (named_inside s c.args.seat c.args.addition.now)) c.self.view_is c.close_named.ensures.reply

pub returns-clause-told : goal.returns-clause-told
returns-clause-told c = subst (λ (s : NamedState). IfOk c.close_named.result (λ told. told.1 ≡ (if c.args.wanted then Some (named_inside_entry s c.args.seat c.args.addition.now) else None))) c.self.view_is c.close_named.ensures.told

pub returns-clause-ok : goal.returns-clause-ok
returns-clause-ok c =
    on_ok_weaker c.close_named.result (λ e. e ∙ (λ i. after_named (c.self.view_is i) (named_inside_entry (c.self.view_is i) c.args.seat c.args.addition.now)))
    (left_either c.close_named.result c.self.inside.joint c.close_named.new.joint c.self.inside.variables c.close_named.new.variables (named_inside_entry (named_over c.self.inside.joint c.self.inside.variables.variables) c.args.seat c.args.addition.now) c.self.invariant c.close_named.ensures.ok c.close_named.ensures.err)
