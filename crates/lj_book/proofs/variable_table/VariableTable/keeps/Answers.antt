use Rattle.std.proofs.Common.{ap, sym, ◌∙◌, subst, ℕ, ◌<◌, ◌≤◌}
use Rattle.std.specs.Prelude.{Some}
use Rattle.std.proofs.lemmas.Bool.{eqb-true}
use Rattle.lj_clause.specs.declared.lit.TheConstants.{MAX_VARIABLE}
use Rattle.lj_clause.proofs.Renaming.{inverse_gives}
use Rattle.lj_book.specs.Variables.{renaming_of}
use Rattle.lj_book.proofs.variable_table.VariableTable.keeps.Goals as goal

pub returns-in-Some-clause-joint : goal.returns-in-Some-clause-joint
returns-in-Some-clause-joint c = λ same.
    inverse_gives (renaming_of c.args.self.now.variables c.args.seat) c.args.own c.args.own (sym c.in-Some.ensures.own ∙ ap Some (eqb-true c.in-Some.variable c.args.own same))

pub returns-in-Some-clause-in_range : goal.returns-in-Some-clause-in_range
returns-in-Some-clause-in_range c = λ same.
    subst (λ (n : ℕ). (0 < n) × (n ≤ MAX_VARIABLE)) (eqb-true c.in-Some.variable c.args.own same) c.in-Some.ensures.in_range
