use Rattle.std.proofs.Common.{ap, subst}
use Rattle.std.specs.Prelude.{List}
use Rattle.lj_book.specs.declared.event.Pending.{Pending}
use Rattle.lj_book.specs.declared.event.Pending.TheVariants as pendings
use Rattle.lj_book.specs.declared.event.Reply.TheVariants as replies
use Rattle.lj_book.specs.NamedWorlds.{NamedWorld, IsNamedCommitOf}
use Rattle.lj_book.proofs.PlayLaws.{put_back}
use Rattle.lj_book.proofs.NamedPlays.{named_no_receipt}
use Rattle.lj_book.proofs.book.Book.answer_commit.Goals as goal

pub returns-in_default : goal.returns-in_default
returns-in_default c =
    let ps = c.args.pending.now in
    let w : NamedWorld = record { state = c.args.self.now; pending = ps } in
    let v : NamedWorld = record { state = c.args.self.now; pending = c.set_pending.new.pending } in
    subst (λ (p : Pending). IsNamedCommitOf p w c.args.seat replies.Nothing v) c.take_pending.ensures.taken
    (named_no_receipt c.take_pending.result w v c.args.seat c.in_default.not-Receipt
    (ap (λ (qs : List Pending). record w { pending = qs })
    (put_back ps c.take_pending.new.pending c.set_pending.new.pending c.args.seat pendings.Nothing c.take_pending.result c.take_pending.ensures.taken c.take_pending.ensures.left c.set_pending.ensures)))
