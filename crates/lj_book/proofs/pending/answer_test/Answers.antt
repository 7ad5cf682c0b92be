use Rattle.std.proofs.Common.{subst}
use Rattle.std.specs.Prelude.{List, slice_set}
use Rattle.lj_book.specs.declared.event.Pending.{Pending}
use Rattle.lj_book.specs.declared.event.Pending.TheVariants as pendings
use Rattle.lj_book.specs.declared.event.Reply.TheVariants as replies
use Rattle.lj_book.specs.Worlds.{IsTestOf}
use Rattle.lj_book.proofs.PlayLaws.{tested_at, no_case, put_back}
use Rattle.lj_book.proofs.pending.answer_test.Goals as goal

pub returns-in-Case : goal.returns-in-Case
returns-in-Case c =
    let ps = c.args.pending.now in
    subst (λ (p : Pending). IsTestOf {B = List Pending} p ps (slice_set ps c.args.seat) c.tested-reply.result.0 c.set_pending.new.pending) c.in-Case.ensures.taken
    (tested_at c.in-Case.case ps c.take_pending.new.pending c.set_pending.new.pending c.args.seat c.tested-reply.result.0 c.tested-reply.result.1 pendings.Nothing c.tested-reply.ensures c.take_pending.ensures.left c.set_pending.ensures)

pub returns-in_default : goal.returns-in_default
returns-in_default c =
    let ps = c.args.pending.now in
    subst (λ (p : Pending). IsTestOf {B = List Pending} p ps (slice_set ps c.args.seat) replies.Nothing c.set_pending-in_default.new.pending) c.take_pending.ensures.taken
    (no_case c.take_pending.result ps c.set_pending-in_default.new.pending (slice_set ps c.args.seat) c.in_default.not-Case
    (put_back ps c.take_pending.new.pending c.set_pending-in_default.new.pending c.args.seat pendings.Nothing c.take_pending.result c.take_pending.ensures.taken c.take_pending.ensures.left c.set_pending-in_default.ensures))
