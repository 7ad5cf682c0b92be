use Rattle.std.proofs.Common.{◌≡◌, refl, sym, subst, Bool, true, false, arith}
use Rattle.std.specs.Prelude.{length, not}
use Rattle.std.proofs.lemmas.Bool.{false≢true}
use Rattle.std.proofs.lemmas.Bool.Decides.{nat_tests}
use Rattle.std.specs.FinMap as fin
use Rattle.lj_clause.specs.Renaming.{inverse}
use Rattle.lj_book.specs.Variables.{renaming_of}
use Rattle.lj_book.specs.inner.VariableTables.{TopVariables}
use Rattle.lj_book.proofs.FormLaws.{none_given}
use Rattle.lj_book.proofs.variable_table.VariableTable.is_any_given.Goals as goal

was_true : (b : Bool) → not b ≡ false → b ≡ true
was_true true h = refl
was_true false h = absurd (false≢true (sym h))

pub returns : goal.returns
returns c = λ h seat.
    let empty = was_true c.is_empty.result h in
    let tested = c.is_empty.ensures in
    let len = c.self.inside.owners.ok.0 in
    let none : length c.self.inside.owners.items ≡ 0 = grind (arith, nat_tests) in
    subst (λ (t : TopVariables). inverse (renaming_of t.variables seat) ≡ fin.empty) c.self.view_is
    (none_given c.self.inside.top c.self.inside.seats.items c.self.inside.owners.items c.self.invariant none seat)
