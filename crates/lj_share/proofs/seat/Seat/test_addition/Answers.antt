use Rattle.std.proofs.Common.{subst, sym}
use Rattle.lj_share.specs.Seats.{SeatValue}
use Rattle.lj_share.specs.inner.Ahead.{AreSeen}
use Rattle.lj_share.specs.inner.Seats.{IsOwnOf, clauses_seen}
use Rattle.lj_share.proofs.AloneLaws.{seen_itself}
use Rattle.lj_share.proofs.AheadLaws.{closed_seen, refused_seen}
use Rattle.lj_share.proofs.seat.Seat.test_addition.Goals as goal

pub returns-clause-closed : goal.returns-clause-closed
returns-clause-closed g c =
    let view = c.self.inside.account.view in
    let are = subst (λ o. IsOwnOf g.L.BookId.formula o view) c.in-Some.is c.self.invariant in
    let seen = subst (λ (s : SeatValue). AreSeen (clauses_seen view) s.view) c.self.view_is (seen_itself view (sym are.0)) in
    closed_seen (clauses_seen view) c.args.self.now.view c.args.self.now.number c.args.addition.now c.test_alone.result seen c.test_alone.ensures.closed

pub returns-clause-refusal : goal.returns-clause-refusal
returns-clause-refusal g c =
    let view = c.self.inside.account.view in
    let are = subst (λ o. IsOwnOf g.L.BookId.formula o view) c.in-Some.is c.self.invariant in
    let seen = subst (λ (s : SeatValue). AreSeen (clauses_seen view) s.view) c.self.view_is (seen_itself view (sym are.0)) in
    refused_seen (clauses_seen view) c.args.self.now.view c.args.self.now.number c.args.addition.now c.test_alone.result seen c.test_alone.ensures.refusal
