use Rattle.std.proofs.Common.{◌≡◌, ℕ, Some, true, false, ap, subst, sym, ◌∙◌}
use Rattle.std.specs.Prelude.{Result}
use Rattle.lj_clause.specs.ClauseMap.{FormulaValue}
use Rattle.lj_hint.specs.Case.{CaseValue}
use Rattle.lj_book.specs.declared.refusal.Refusal.{Refusal}
use Rattle.lj_book.specs.Calls.{IsReply}
use Rattle.lj_share.specs.Seats.{SeatValue}
use Rattle.lj_share.specs.inner.Seats.{IsOwnOf, case_by, own_pair}
use Rattle.lj_share.proofs.KeptLaws.{case_taken, case_told, taken_taken, whether_kept}
use Rattle.lj_share.proofs.seat.Seat.take.Goals as goal

pub returns-then-is_some-clause-unlocked : goal.returns-then-is_some-clause-unlocked
returns-then-is_some-clause-unlocked g c =
    let f = c.args.formula.now in
    let a = c.args.addition.now in
    let own = c.in-Some.own in
    let seat = c.args.self.now in
    let first = subst (λ o. IsOwnOf g.L.BookId.formula o c.self.inside.account.view) c.in-Some.is c.self.invariant in
    let there = subst (λ (s : SeatValue). IsOwnOf g.L.BookId.formula (Some own) s.view) c.self.view_is first in
    let are = subst (λ (x : FormulaValue). IsOwnOf x (Some own) seat.view) (sym c.requires) there in
    taken_taken f own seat.view seat.number a are (whether_kept f own a.number c.get.result c.is_some.result true c.get.ensures c.is_some.ensures c.if-is_some.true)

pub returns-clause-unlocked : goal.returns-clause-unlocked
returns-clause-unlocked g c =
    let f = c.args.formula.now in
    let a = c.args.addition.now in
    let own = c.in-Some.own in
    let seat = c.args.self.now in
    let first = subst (λ o. IsOwnOf g.L.BookId.formula o c.self.inside.account.view) c.in-Some.is c.self.invariant in
    let there = subst (λ (s : SeatValue). IsOwnOf g.L.BookId.formula (Some own) s.view) c.self.view_is first in
    let are = subst (λ (x : FormulaValue). IsOwnOf x (Some own) seat.view) (sym c.requires) there in
    let free = whether_kept f own a.number c.get.result c.is_some.result false c.get.ensures c.is_some.ensures c.if-is_some.false in
    let number : c.number.result ≡ seat.number = c.number.ensures ∙ ap (λ (s : SeatValue). s.number) c.self.view_is in
    subst (λ (r : Result CaseValue Refusal). IsReply c.case_of.result r) (ap (λ (n : ℕ). case_by (own_pair f own) n a) number ∙ case_taken f own seat.view seat.number a are free) c.case_of.ensures

pub returns-clause-refused : goal.returns-clause-refused
returns-clause-refused g c =
    let f = c.args.formula.now in
    let a = c.args.addition.now in
    let own = c.in-Some.own in
    let seat = c.args.self.now in
    let first = subst (λ o. IsOwnOf g.L.BookId.formula o c.self.inside.account.view) c.in-Some.is c.self.invariant in
    let there = subst (λ (s : SeatValue). IsOwnOf g.L.BookId.formula (Some own) s.view) c.self.view_is first in
    let are = subst (λ (x : FormulaValue). IsOwnOf x (Some own) seat.view) (sym c.requires) there in
    case_told f own seat.view a c.case_of.result are (whether_kept f own a.number c.get.result c.is_some.result false c.get.ensures c.is_some.ensures c.if-is_some.false)
