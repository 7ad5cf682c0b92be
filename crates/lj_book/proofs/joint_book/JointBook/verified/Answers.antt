use Rattle.std.proofs.Common.{ap, sym, ◌∙◌, subst}
use Rattle.std.specs.Prelude.{not}
use Rattle.lj_clause.specs.ClauseMap.{FormulaValue}
use Rattle.lj_book.specs.State.{State}
use Rattle.lj_clause.specs.Truth.{IsUnsatisfiable}
use Rattle.lj_book.proofs.BookLaws.{refuted_unsatisfiable, told_refutes}
use Rattle.lj_book.proofs.joint_book.JointBook.verified.Goals as goal

pub new-requires : goal.new-requires
new-requires c =
    let s : State = record { formula = c.self.inside.formula; max_steps = c.self.inside.max_steps; tables = c.self.inside.tables; history = c.self.inside.clause_log.history.entries } in
    subst (λ (f : FormulaValue). IsUnsatisfiable f) (sym c.in_ok-try_clone.ensures)
    (refuted_unsatisfiable s c.self.inside.clause_log.live c.self.inside.added c.self.inside.refuted c.self.invariant (c.is_none.ensures ∙ ap not c.if-is_none.false))

pub returns-then-is_none-clause-refuted : goal.returns-then-is_none-clause-refuted
returns-then-is_none-clause-refuted c = sym (c.is_none.ensures ∙ ap not c.if-is_none.true) ∙ told_refutes _ _ c.self.inside.clause_log.live c.self.inside.added c.self.inside.refuted c.self.view_is c.self.invariant

pub returns-clause-refuted : goal.returns-clause-refuted
returns-clause-refuted c = sym (c.is_none.ensures ∙ ap not c.if-is_none.false) ∙ told_refutes _ _ c.self.inside.clause_log.live c.self.inside.added c.self.inside.refuted c.self.view_is c.self.invariant
