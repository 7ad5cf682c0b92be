use Rattle.std.proofs.Common.{inl, inr, sym, ap, ◌∙◌, subst}
use Rattle.lj_clause.specs.ClauseMap.{FormulaValue}
use Rattle.lj_text.specs.declared.line.Line.{Line}
use Rattle.lj_text.specs.declared.line.Line.TheVariants as lines
use Rattle.lj_share.specs.Seats.{SeatValue, seat_of_book}
use Rattle.lj_share.specs.inner.Seats.{IsLineBegun, IsOwnOf}
use Rattle.lj_share.proofs.Adopting.{adopted_view}
use Rattle.lj_share.proofs.FreeLaws.{adopted_refused}
use Rattle.lj_share.proofs.KeptLaws.{own_decided, own_finished, own_taken_back}
use Rattle.lj_share.proofs.Opened.{locked_book_in, made_in, opened_on}
use Rattle.lj_share.proofs.locked_book.LockedBook.adopt.Goals as goal

pub returns-in-Ok-adopt_with_entry-clause-made : goal.returns-in-Ok-adopt_with_entry-clause-made
returns-in-Ok-adopt_with_entry-clause-made g c = made_in c.agree.ensures.views _ _ _ _ _ _ c.agree.ensures.formula c.agree.ensures.legal c.count_one.ensures.legal c.number-seat.ensures c.in-Ok-adopt_with_entry.ensures.ok c.agree.ensures.seat c.agree.ensures.kept c.count_one.ensures.seat tt

pub count_one-requires-clause-opened : goal.count_one-requires-clause-opened
count_one-requires-clause-opened g c = opened_on _ _ _ _ _ _ c.in-Ok-adopt_with_entry.ensures.ok c.self.invariant.opened

pub invariant_of-self-in-Ok-adopt_with_entry : goal.invariant_of-self-in-Ok-adopt_with_entry
invariant_of-self-in-Ok-adopt_with_entry g c = locked_book_in c.agree.ensures.views _ _ _ _ _ _ _ _ _ _ _ _ _ _ c.agree.ensures.formula c.agree.ensures.legal c.count_one.ensures.legal c.number-seat.ensures c.in-Ok-adopt_with_entry.ensures.ok c.count_one.ensures.entries c.agree.ensures.lists c.count_one.ensures.lists c.self.invariant

pub returns-in-Err-clause-refusal : goal.returns-in-Err-clause-refusal
returns-in-Err-clause-refusal g c =
    let number = c.number-seat.ensures ∙ ap (λ (s : SeatValue). s.number) c.agree.ensures.kept in
    inl (record {
      state = c.self.inside.book;
      opened = c.self.invariant.opened;
      legal = c.agree.ensures.legal;
      seat_is = c.agree.ensures.seat;
      holds_there = adopted_refused c.agree.ensures.free c.self.inside.book c.number-seat.result c.args.own c.args.joint c.args.account.now c.in-Err.refusal number c.agree.ensures.seat c.requires.free c.in-Err.ensures.reply;
    })

pub returns-in-Err-bind_ahead-clause-refusal : goal.returns-in-Err-bind_ahead-clause-refusal
returns-in-Err-bind_ahead-clause-refusal g c =
    let are = subst (λ (f : FormulaValue). IsOwnOf f c.args.kept.now c.args.account.now.view) (sym c.requires.formula) c.requires.own in
    inr (own_decided c.args.formula.now c.args.kept.now c.args.account.now.view c.args.own c.in-Err-bind_ahead.refusal are c.in-Err-bind_ahead.ensures.refusal)

pub returns-in-Ok-adopt_with_entry-clause-own : goal.returns-in-Ok-adopt_with_entry-clause-own
returns-in-Ok-adopt_with_entry-clause-own g c =
    let f = g.L.BookId.formula in
    let k = c.args.kept.now in
    let l = c.bind_ahead.new.kept in
    let clause = c.in-Ok.clause in
    let line : Line = lines.Import c.args.own clause in
    let begun = subst (λ (x : FormulaValue). IsLineBegun x line k l) c.requires.formula c.in_default.ensures.begun in
    let number = c.number-seat.ensures ∙ ap (λ (s : SeatValue). s.number) c.agree.ensures.kept in
    let view = adopted_view c.agree.ensures.views c.self.inside.book c.adopt_with_entry.new.self c.number-seat.result c.args.own c.args.joint clause c.args.account.now c.count_one.new.self c.agree.ensures.formula c.agree.ensures.legal c.count_one.ensures.legal c.in-Ok-adopt_with_entry.ensures.ok number c.agree.ensures.seat (c.count_one.ensures.seat ∙ ap (λ (s : SeatValue). seat_of_book c.adopt_with_entry.new.self s.number) c.agree.ensures.kept) c.in-Ok.ensures.reply in
    own_finished f k l c.settle.new.kept c.args.account.now.view c.count_one.new.self.view line c.args.joint c.requires.own begun (c.settle.ensures clause) view

pub returns-clause-own : goal.returns-clause-own
returns-clause-own g c =
    let f = g.L.BookId.formula in
    let k = c.args.kept.now in
    let l = c.bind_ahead.new.kept in
    let clause = c.in-Ok.clause in
    let line : Line = lines.Import c.args.own clause in
    let begun = subst (λ (x : FormulaValue). IsLineBegun x line k l) c.requires.formula c.in_default.ensures.begun in
    subst (λ (s : SeatValue). IsOwnOf f c.unbind.new.kept s.view) (sym c.agree.ensures.kept) (own_taken_back f k l c.unbind.new.kept c.args.account.now.view line c.requires.own begun (c.unbind.ensures clause))
