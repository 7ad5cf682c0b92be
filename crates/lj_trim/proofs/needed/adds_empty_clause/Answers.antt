use Rattle.std.proofs.Common.{ap, ◌∙◌, sym, length}
use Rattle.std.specs.Prelude.{◌==◌}
use Rattle.lj_clause.specs.LiteralSet.{literals}
use Rattle.lj_text.specs.Steps.{adds_empty}
use Rattle.lj_trim.proofs.FrontLemmas.{empty-literals}
use Rattle.lj_trim.proofs.needed.adds_empty_clause.Goals as goal

pub returns-in-Add : goal.returns-in-Add
returns-in-Add c =
    c.is_empty.ensures
    ∙ ap (λ ls. length ls == 0) (c.lits.ensures ∙ ap literals c.clause.ensures.clause)
    ∙ empty-literals c.in-Add.addition.lemma.clause
    ∙ ap adds_empty (sym c.in-Add.is)
