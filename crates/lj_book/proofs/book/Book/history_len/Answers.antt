use Rattle.std.proofs.Common.{ap, sym, ◌∙◌}
use Rattle.std.specs.Prelude.{length}
use Rattle.std.proofs.lemmas.List.{length-map}
use Rattle.lj_book.specs.Named.{NamedState}
use Rattle.lj_book.proofs.book.Book.history_len.Goals as goal

pub returns : goal.returns
returns c = c.history_len.ensures ∙ sym (length-map c.self.inside.joint.history _) ∙ ap (λ (s : NamedState). length s.history) c.self.view_is
