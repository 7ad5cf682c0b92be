use Rattle.std.proofs.Common.{None, ap, cond, sym, ◌∙◌}
use Rattle.std.specs.FinMap as fin
use Rattle.lj_clause.specs.ClauseMap.{ClauseMap, FormulaValue}
use Rattle.lj_share.specs.inner.Seats.{own_clause}
use Rattle.lj_share.proofs.seat.SeenClausesClauses.clause.Goals as goal

pub returns-then-has : goal.returns-then-has
returns-then-has g c =
    sym (ap (λ b. cond b None (own_clause g.L.BookId.formula c.self.inside.own.now c.args.own)) (sym c.has.ensures ∙ c.if-has.true))
    ∙ c.self.invariant.1.1 c.args.own
    ∙ ap (λ (m : ClauseMap). fin.get m c.args.own) c.self.view_is

pub returns : goal.returns
returns g c =
    c.get.ensures
    ∙ ap (λ (f : FormulaValue). own_clause f c.self.inside.own.now c.args.own) c.self.invariant.0
    ∙ sym (ap (λ b. cond b None (own_clause g.L.BookId.formula c.self.inside.own.now c.args.own)) (sym c.has.ensures ∙ c.if-has.false))
    ∙ c.self.invariant.1.1 c.args.own
    ∙ ap (λ (m : ClauseMap). fin.get m c.args.own) c.self.view_is
