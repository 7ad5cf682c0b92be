use Rattle.std.proofs.Common.{ap, sym, ◌∙◌}
use Rattle.lj_book.specs.State.{verdict}
use Rattle.lj_book.specs.Named.{NamedState}
use Rattle.lj_book.proofs.OverLaws.{verdict-over}
use Rattle.lj_book.proofs.book.Book.verdict.Goals as goal

pub returns : goal.returns
returns c =
    c.verdict.ensures ∙ sym (verdict-over c.self.inside.variables.variables 0 c.self.inside.joint.history)
    ∙ ap (λ (s : NamedState). verdict s.history) c.self.view_is
