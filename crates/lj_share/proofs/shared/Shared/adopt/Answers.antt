use Rattle.std.proofs.Common.{◌≡◌, None, inr, subst, sym, ◌∙◌}
use Rattle.lj_clause.specs.ClauseMap.{FormulaValue}
use Rattle.lj_book.specs.Solo.{solo_refusal}
use Rattle.lj_share.specs.Refusals.{IsDecided}
use Rattle.lj_share.specs.Seats.{SeatValue}
use Rattle.lj_share.specs.inner.Seats.{IsOwnOf}
use Rattle.lj_share.proofs.KeptLaws.{decided_as, kept_refused}
use Rattle.lj_share.proofs.shared.Shared.adopt.Goals as goal

pub returns-in-Err-clause-refusal : goal.returns-in-Err-clause-refusal
returns-in-Err-clause-refusal g c =
    let k = c.seat.inside.own in
    let view = c.seat.inside.account.view in
    let are = subst (λ (f : FormulaValue). IsOwnOf f k view) (sym c.self.invariant.1) c.seat.invariant in
    let is = decided_as (solo_refusal view c.args.own) c.in-Err.refusal (sym (kept_refused c.self.inside.formula k view c.args.own are) ∙ c.in-Err.ensures.refusal) in
    inr (subst (λ (s : SeatValue). IsDecided (solo_refusal s.view c.args.own) c.in-Err.refusal) c.seat.view_is is)

pub adopt-requires-clause-free : goal.adopt-requires-clause-free
adopt-requires-clause-free g c =
    let k = c.seat.inside.own in
    let view = c.seat.inside.account.view in
    let are = subst (λ (f : FormulaValue). IsOwnOf f k view) (sym c.self.invariant.1) c.seat.invariant in
    sym (kept_refused c.self.inside.formula k view c.args.own are) ∙ c.in_default.ensures.free

pub returns-clause-free : goal.returns-clause-free
returns-clause-free g c =
    let k = c.seat.inside.own in
    let view = c.seat.inside.account.view in
    let are = subst (λ (f : FormulaValue). IsOwnOf f k view) (sym c.self.invariant.1) c.seat.invariant in
    subst (λ (s : SeatValue). solo_refusal s.view c.args.own ≡ None) c.seat.view_is (sym (kept_refused c.self.inside.formula k view c.args.own are) ∙ c.in_default.ensures.free)
