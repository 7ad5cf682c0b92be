use Rattle.std.proofs.Common.{ap, sym, ◌∙◌, subst}
use Rattle.std.specs.Prelude.{ℤ, List, Some}
use Rattle.std.specs.FinMap as fin
use Rattle.lj_book.specs.inner.Ranges.{clause_in, IsRange}
use Rattle.lj_book.proofs.RangeLaws.{found_placed, none_placed}
use Rattle.lj_book.proofs.clause_log.ClauseLog.clause.Goals as goal

pub clause_at-requires : goal.clause_at-requires
clause_at-requires c =
    subst (λ (ls : List ℤ). IsRange ls c.in-Some.range) (sym c.lits.ensures)
    (c.self.invariant.ranges_are c.args.number c.in-Some.range (sym c.get.ensures ∙ c.in-Some.is))

pub returns-in-Some : goal.returns-in-Some
returns-in-Some c =
    ap Some (c.clause_at.ensures ∙ ap (λ (ls : List ℤ). clause_in ls c.in-Some.range) c.lits.ensures)
    ∙ found_placed c.self.inside.history.lits c.self.inside.ranges c.args.number c.in-Some.range (sym c.get.ensures ∙ c.in-Some.is)
    ∙ ap (λ r. fin.get r.live c.args.number) c.self.view_is

pub returns-in-None : goal.returns-in-None
returns-in-None c =
    none_placed c.self.inside.history.lits c.self.inside.ranges c.args.number (sym c.get.ensures ∙ c.in-None.is)
    ∙ ap (λ r. fin.get r.live c.args.number) c.self.view_is
