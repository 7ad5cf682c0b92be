use Rattle.std.proofs.Common.{ap, sym, ◌∙◌}
use Rattle.std.specs.Prelude.{Some}
use Rattle.std.specs.FinMap as fin
use Rattle.lj_book.proofs.RangeLaws.{found_placed, none_placed}
use Rattle.lj_book.proofs.lent_clauses.LentClauses.get.Goals as goal

pub clause_at-requires : goal.clause_at-requires
clause_at-requires c = c.self.invariant c.args.number c.in-Some.range (sym c.get.ensures ∙ c.in-Some.is)

pub returns-in-Some : goal.returns-in-Some
returns-in-Some c =
    ap Some c.clause_at.ensures
    ∙ found_placed c.self.inside.lits.now c.self.inside.ranges.now c.args.number c.in-Some.range (sym c.get.ensures ∙ c.in-Some.is)
    ∙ ap (λ p. fin.get p c.args.number) c.self.view_is

pub returns-in-None : goal.returns-in-None
returns-in-None c =
    none_placed c.self.inside.lits.now c.self.inside.ranges.now c.args.number (sym c.get.ensures ∙ c.in-None.is)
    ∙ ap (λ p. fin.get p c.args.number) c.self.view_is
