use Rattle.std.proofs.Common.{◌≡◌, ℕ, ap, inr, subst, sym, ◌∙◌}
use Rattle.lj_clause.specs.ClauseMap.{FormulaValue}
use Rattle.lj_text.specs.declared.line.Line.{Line}
use Rattle.lj_text.specs.declared.line.Line.TheVariants as lines
use Rattle.lj_book.specs.Solo.{solo_refusal}
use Rattle.lj_share.specs.Refusals.{IsDecided}
use Rattle.lj_share.specs.Seats.{SeatValue}
use Rattle.lj_share.specs.inner.Seats.{IsLineBegun, IsFinished, IsOwnOf, IsTakenBack}
use Rattle.lj_share.proofs.KeptLaws.{own_decided, own_finished, own_taken_back}
use Rattle.lj_share.proofs.shared.Shared.commit.Goals.{in-Ok, in-Err-commit}
use Rattle.lj_share.proofs.shared.Shared.commit.Goals as goal

pub returns-in-Err-clause-refusal : goal.returns-in-Err-clause-refusal
returns-in-Err-clause-refusal g c =
    let k = c.seat.inside.own in
    let view = c.seat.inside.account.view in
    let are = subst (λ (f : FormulaValue). IsOwnOf f k view) (sym c.self.invariant.1) c.seat.invariant in
    let is = own_decided c.self.inside.formula k view c.own-own.result c.in-Err.refusal are c.in-Err.ensures.refusal in
    inr (subst (λ (s : SeatValue). IsDecided (solo_refusal s.view c.args.receipt.own) c.in-Err.refusal) c.seat.view_is (subst (λ (n : ℕ). IsDecided (solo_refusal view n) c.in-Err.refusal) c.own-own.ensures is))

pub invariant_of-seat-2 : goal.invariant_of-seat-2
invariant_of-seat-2 g c =
    let f = g.L.BookId.formula in
    let k = c.seat.inside.own in
    let l = c.bind_ahead.new.kept in
    let view = c.seat.inside.account.view in
    let clause = c.clause.result.now in
    let first : Line = lines.Import c.own-own.result clause in
    let line : Line = lines.Import c.args.receipt.own c.args.receipt.lemma.clause in
    let clause_is = c.clause.ensures.clause ∙ ap (λ l. l.clause) c.lemma.ensures.lemma in
    let same : first ≡ line = λ i. lines.Import (c.own-own.ensures i) (clause_is i) in
    let begun = subst (λ (x : Line). IsLineBegun f x k l) same (subst (λ (x : FormulaValue). IsLineBegun x first k l) c.self.invariant.1 c.in_default.ensures.begun) in
    elim c.match-commit.branch [
      | in-Ok w ↦ rw w.seat-inside-is (own_finished f k l w.settle.new.kept view c.commit.new.account.view line w.in-Ok.joint c.seat.invariant begun (subst (λ (x : Line). IsFinished x w.in-Ok.joint l w.settle.new.kept) same (w.settle.ensures clause)) w.in-Ok.ensures.view)
      | in-Err-commit w ↦ rw w.seat-inside-is (subst (λ (s : SeatValue). IsOwnOf f w.unbind-in-Err-commit.new.kept s.view) (sym w.in-Err-commit.ensures.kept) (own_taken_back f k l w.unbind-in-Err-commit.new.kept view line c.seat.invariant begun (subst (λ (x : Line). IsTakenBack x l w.unbind-in-Err-commit.new.kept) same (w.unbind-in-Err-commit.ensures clause))))
    ]

pub invariant_of-seat-in-Err-reserve : goal.invariant_of-seat-in-Err-reserve
invariant_of-seat-in-Err-reserve g c =
    let f = g.L.BookId.formula in
    let k = c.seat.inside.own in
    let l = c.bind_ahead.new.kept in
    let view = c.seat.inside.account.view in
    let clause = c.clause.result.now in
    let first : Line = lines.Import c.own-own.result clause in
    let begun = subst (λ (x : FormulaValue). IsLineBegun x first k l) c.self.invariant.1 c.in_default.ensures.begun in
    own_taken_back f k l c.unbind.new.kept view first c.seat.invariant begun (c.unbind.ensures clause)
