use Rattle.std.proofs.Common.{ap, ◌∙◌}
use Rattle.std.specs.Prelude.{is_ok}
use Rattle.lj_share.specs.Seats.{SeatValue}
use Rattle.lj_share.proofs.Opened.{locked_book_in, locked_book_agreed, made_in, opened_on}
use Rattle.lj_share.proofs.FreeLaws.{free_here}
use Rattle.lj_share.proofs.locked_book.LockedBook.leave.Goals.{in-Ok, in-Err}
use Rattle.lj_share.proofs.locked_book.LockedBook.leave.Goals as goal

pub returns-clause-made : goal.returns-clause-made
returns-clause-made g c =
    elim c.match-leave_with_entry.branch [
      | in-Ok w ↦ rw (w.result-is, w.account-is) (made_in c.agree.ensures.views _ _ _ _ _ _ c.agree.ensures.formula c.agree.ensures.legal w.count_one.ensures.legal c.number.ensures w.in-Ok.ensures.ok c.agree.ensures.seat c.agree.ensures.kept w.count_one.ensures.seat tt)
      | in-Err w ↦ rw w.result-is tt
    ]

pub invariant_of-self : goal.invariant_of-self
invariant_of-self g c =
    elim c.match-leave_with_entry.branch [
      | in-Ok w ↦ rw w.self-inside-is (locked_book_in c.agree.ensures.views _ _ _ _ _ _ _ _ _ _ _ _ _ _ c.agree.ensures.formula c.agree.ensures.legal w.count_one.ensures.legal c.number.ensures w.in-Ok.ensures.ok w.count_one.ensures.entries c.agree.ensures.lists w.count_one.ensures.lists c.self.invariant)
      | in-Err w ↦ rw w.self-inside-is (locked_book_agreed _ _ _ _ _ _ _ _ _ _ w.in-Err.ensures.err c.agree.ensures.lists c.self.invariant)
    ]

pub returns-clause-free : goal.returns-clause-free
returns-clause-free g c =
    elim c.match-leave_with_entry.branch [
      | in-Ok w ↦ rw w.result-is (free_here c.agree.ensures.free _ c.self.inside.book c.number.result c.args.account.now (c.number.ensures ∙ ap (λ (s : SeatValue). s.number) c.agree.ensures.kept) c.agree.ensures.seat (ap is_ok w.in-Ok.ensures.reply))
      | in-Err w ↦ rw w.result-is tt
    ]

pub count_one-requires-clause-opened : goal.count_one-requires-clause-opened
count_one-requires-clause-opened g c = opened_on _ _ _ _ _ _ c.in-Ok.ensures.ok c.self.invariant.opened
