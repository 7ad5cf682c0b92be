use Rattle.std.proofs.Common.{ℕ, ap, subst, ◌∙◌}
use Rattle.lj_share.specs.Refusals.{IsRefusedLine}
use Rattle.lj_share.specs.Seats.{SeatValue}
use Rattle.lj_share.specs.inner.Lines.{seat_line_entry}
use Rattle.lj_share.proofs.LineLaws.{line_free, line_made, line_seat, line_tested, line_token, line_view}
use Rattle.lj_share.proofs.Opened.{locked_book_in, locked_book_agreed, opened_on}
use Rattle.lj_share.proofs.locked_book.LockedBook.enter.Goals.{in-Ok, in-Err}
use Rattle.lj_share.proofs.locked_book.LockedBook.enter.Goals as goal

pub enter-requires : goal.enter-requires
enter-requires g c = line_tested c.self.inside.book c.number.result c.args.line.now c.args.unlocked c.args.account.now (c.number.ensures ∙ ap (λ (s : SeatValue). s.number) c.agree.ensures.kept) c.agree.ensures.seat c.requires

pub returns-clause-made : goal.returns-clause-made
returns-clause-made g c =
    elim c.match-enter.branch [
      | in-Ok w ↦ rw (w.result-is, w.account-is) (line_made c.agree.ensures.views _ _ _ w.in-Ok.joint c.args.line.now _ _ _ c.agree.ensures.formula c.agree.ensures.legal w.count_one.ensures.legal c.number.ensures w.in-Ok.ensures.ok c.agree.ensures.seat c.agree.ensures.kept w.count_one.ensures.seat w.in-Ok.ensures.joint)
      | in-Err w ↦ rw w.result-is tt
    ]

pub returns-clause-told : goal.returns-clause-told
returns-clause-told g c =
    elim c.match-enter.branch [
      | in-Ok w ↦ rw w.result-is (line_token c.args.with_entry c.self.inside.book c.number.result c.args.account.now.number c.args.line.now w.in-Ok.entry (c.number.ensures ∙ ap (λ (s : SeatValue). s.number) c.agree.ensures.kept) w.in-Ok.ensures.told)
      | in-Err w ↦ rw w.result-is tt
    ]

pub returns-clause-view : goal.returns-clause-view
returns-clause-view g c =
    elim c.match-enter.branch [
      | in-Ok w ↦ rw (w.result-is, w.account-is) (line_view c.agree.ensures.views _ _ _ w.in-Ok.joint c.args.line.now _ _ _ c.agree.ensures.formula c.agree.ensures.legal w.count_one.ensures.legal c.number.ensures w.in-Ok.ensures.ok c.agree.ensures.seat c.agree.ensures.kept w.count_one.ensures.seat w.in-Ok.ensures.joint)
      | in-Err w ↦ rw w.result-is tt
    ]

pub returns-clause-free : goal.returns-clause-free
returns-clause-free g c =
    elim c.match-enter.branch [
      | in-Ok w ↦ rw w.result-is (line_free c.agree.ensures.decided c.agree.ensures.free c.self.inside.book c.number.result c.args.line.now c.args.account.now c.agree.ensures.formula c.agree.ensures.legal (c.number.ensures ∙ ap (λ (s : SeatValue). s.number) c.agree.ensures.kept) c.agree.ensures.seat w.in-Ok.ensures.accepted)
      | in-Err w ↦ rw w.result-is tt
    ]

pub returns-clause-refusal : goal.returns-clause-refusal
returns-clause-refusal g c =
    elim c.match-enter.branch [
      | in-Ok w ↦ rw w.result-is tt
      | in-Err w ↦ rw w.result-is (record {
        state = c.self.inside.book;
        opened = c.self.invariant.opened;
        legal = c.agree.ensures.legal;
        seat_is = c.agree.ensures.seat;
        holds_there = subst (λ (n : ℕ). IsRefusedLine n c.args.line.now w.in-Err.refusal c.self.inside.book) (c.number.ensures ∙ ap (λ (s : SeatValue). s.number) c.agree.ensures.kept) w.in-Err.ensures.refusal;
      })
    ]

pub invariant_of-self : goal.invariant_of-self
invariant_of-self g c =
    elim c.match-enter.branch [
      | in-Ok w ↦ rw w.self-inside-is (locked_book_in c.agree.ensures.views _ _ _ _ _ (seat_line_entry c.self.inside.book c.number.result c.args.line.now) _ _ _ _ _ _ _ _ c.agree.ensures.formula c.agree.ensures.legal w.count_one.ensures.legal (line_seat c.self.inside.book c.number.result c.args.line.now ∙ c.number.ensures) w.in-Ok.ensures.ok w.count_one.ensures.entries c.agree.ensures.lists w.count_one.ensures.lists c.self.invariant)
      | in-Err w ↦ rw w.self-inside-is (locked_book_agreed _ _ _ _ _ _ _ _ _ _ w.in-Err.ensures.err c.agree.ensures.lists c.self.invariant)
    ]

pub count_one-requires-clause-opened : goal.count_one-requires-clause-opened
count_one-requires-clause-opened g c = opened_on _ _ _ _ _ _ c.in-Ok.ensures.ok c.self.invariant.opened
