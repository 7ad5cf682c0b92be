use Rattle.std.proofs.Common.{sym, ap, refl, ◌∙◌}
use Rattle.std.specs.Prelude.{is_ok}
use Rattle.lj_share.specs.Seats.{SeatValue}
use Rattle.lj_share.proofs.Opened.{locked_book_in, locked_book_agreed, made_in, opened_on, added_in, committed_next}
use Rattle.lj_share.proofs.FreeLaws.{free_committed}
use Rattle.lj_share.proofs.locked_book.LockedBook.commit.Goals.{in-Ok, in-Err}
use Rattle.lj_share.proofs.locked_book.LockedBook.commit.Goals as goal

pub returns-clause-made : goal.returns-clause-made
returns-clause-made g c =
    elim c.match-commit_with_entry.branch [
      | in-Ok w ↦ rw (w.result-is, w.account-is) (made_in c.agree.ensures.views _ _ _ _ _ _ c.agree.ensures.formula c.agree.ensures.legal w.count_one.ensures.legal (c.requires ∙ sym (ap (λ (s : SeatValue). s.number) c.agree.ensures.kept)) w.in-Ok.ensures.ok c.agree.ensures.seat c.agree.ensures.kept w.count_one.ensures.seat tt)
      | in-Err w ↦ rw w.result-is tt
    ]

pub invariant_of-self : goal.invariant_of-self
invariant_of-self g c =
    elim c.match-commit_with_entry.branch [
      | in-Ok w ↦ rw w.self-inside-is (locked_book_in c.agree.ensures.views _ _ _ _ _ _ _ _ _ _ _ _ _ _ c.agree.ensures.formula c.agree.ensures.legal w.count_one.ensures.legal (c.requires ∙ sym (ap (λ (s : SeatValue). s.number) c.agree.ensures.kept)) w.in-Ok.ensures.ok w.count_one.ensures.entries c.agree.ensures.lists w.count_one.ensures.lists c.self.invariant)
      | in-Err w ↦ rw w.self-inside-is (locked_book_agreed _ _ _ _ _ _ _ _ _ _ w.in-Err.ensures.err c.agree.ensures.lists c.self.invariant)
    ]

pub returns-clause-free : goal.returns-clause-free
returns-clause-free g c =
    elim c.match-commit_with_entry.branch [
      | in-Ok w ↦ rw w.result-is (free_committed c.agree.ensures.free c.self.inside.book c.args.receipt c.args.account.now c.requires c.agree.ensures.seat (ap is_ok w.in-Ok.ensures.reply))
      | in-Err w ↦ rw w.result-is tt
    ]

pub returns-clause-view : goal.returns-clause-view
returns-clause-view g c =
    elim c.match-commit_with_entry.branch [
      | in-Ok w ↦ rw (w.result-is, w.account-is) (added_in c.agree.ensures.views _ _ _ c.args.receipt.own c.args.receipt.lemma _ _ _ _ c.agree.ensures.formula c.agree.ensures.legal w.count_one.ensures.legal (c.requires ∙ sym (ap (λ (s : SeatValue). s.number) c.agree.ensures.kept)) w.in-Ok.ensures.ok c.agree.ensures.seat c.agree.ensures.kept w.count_one.ensures.seat refl (committed_next c.self.inside.book c.args.receipt _ w.in-Ok.ensures.reply))
      | in-Err w ↦ rw w.result-is tt
    ]

pub count_one-requires-clause-opened : goal.count_one-requires-clause-opened
count_one-requires-clause-opened g c = opened_on _ _ _ _ _ _ c.in-Ok.ensures.ok c.self.invariant.opened
