use Rattle.std.proofs.Common.{ap, sym, ◌∙◌}
use Rattle.lj_book.specs.State.{steps_of}
use Rattle.lj_book.specs.Named.{NamedState}
use Rattle.lj_book.proofs.OverLaws.{steps-over}
use Rattle.lj_book.proofs.book.Book.into_steps.Goals as goal

pub returns : goal.returns
returns c =
    c.into_steps.ensures ∙ sym (steps-over c.self.inside.variables.variables c.self.inside.joint.history)
    ∙ ap (λ (s : NamedState). steps_of s.history) c.self.view_is
