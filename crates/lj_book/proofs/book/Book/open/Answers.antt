use Rattle.std.proofs.Common.{ap, ◌∙◌}
use Rattle.lj_book.specs.Variables.{no_variables}
use Rattle.lj_book.specs.inner.VariableTables.{variables_at}
use Rattle.lj_book.proofs.OverLaws.{opening_over, opened}
use Rattle.lj_book.proofs.book.Book.open.Goals as goal

pub invariant_of-result : goal.invariant_of-result
invariant_of-result c =
    opening_over c.args.formula c.args.seats c.args.max_steps c.in_ok-joint.joint c.in_ok-variables.variables c.requires c.in_ok-joint.ensures
    (c.in_ok-variables.ensures ∙ ap (λ v. variables_at v (no_variables v c.args.seats)) c.variables.ensures.variables)

pub returns : goal.returns
returns c =
    opened c.args.formula c.args.seats c.args.max_steps c.in_ok-joint.joint c.in_ok-variables.variables c.in_ok-joint.ensures
    (c.in_ok-variables.ensures ∙ ap (λ v. variables_at v (no_variables v c.args.seats)) c.variables.ensures.variables)
