use Rattle.std.proofs.Common.{ap, sym, ◌∙◌}
use Rattle.std.specs.Prelude.{Some}
use Rattle.lj_clause.specs.ClauseMap.{names_up_to}
use Rattle.lj_book.proofs.WithinTop.{within_lemma}
use Rattle.lj_book.proofs.variable_table.VariableTable.joint_lemma.Goals as goal

pub returns-then-is_within : goal.returns-then-is_within
returns-then-is_within c =
    ap Some c.in_ok-try_clone.ensures
    ∙ within_lemma c.args.self.now.top c.args.self.now.variables c.args.seat c.is_within.ensures.variables c.args.lemma.now c.clause.ensures.lemma
    (ap (names_up_to c.args.self.now.top) (sym c.clause.ensures.clause) ∙ sym c.is_within.ensures.within ∙ c.if-is_within.true)
