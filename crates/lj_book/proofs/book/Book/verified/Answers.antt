use Rattle.std.proofs.Common.{◌≡◌, sym, subst, List}
use Rattle.std.specs.Prelude.{IfOk, is_some, Option, ℕ}
use Rattle.lj_text.specs.declared.step.Step.{Step}
use Rattle.lj_text.specs.Steps.{refutes}
use Rattle.lj_book.specs.State.{steps_of, verdict}
use Rattle.lj_book.specs.Named.{NamedState}
use Rattle.lj_book.proofs.OverLaws.{verdict-over, steps-over}
use Rattle.lj_book.proofs.book.Book.verified.Goals as goal

pub returns-clause-some : goal.returns-clause-some
returns-clause-some c =
    subst (λ (s : NamedState). IfOk c.verified.result (λ found. is_some found ≡ is_some (verdict s.history))) c.self.view_is
    (subst (λ (o : Option ℕ). IfOk c.verified.result (λ found. is_some found ≡ is_some o)) (sym (verdict-over c.self.inside.variables.variables 0 c.self.inside.joint.history)) c.verified.ensures.some)

pub returns-clause-refuted : goal.returns-clause-refuted
returns-clause-refuted c =
    subst (λ (s : NamedState). IfOk c.verified.result (λ found. is_some found ≡ refutes s.formula (steps_of s.history))) c.self.view_is
    (subst (λ (ss : List Step). IfOk c.verified.result (λ found. is_some found ≡ refutes c.self.inside.joint.formula ss)) (sym (steps-over c.self.inside.variables.variables c.self.inside.joint.history)) c.verified.ensures.refuted)
