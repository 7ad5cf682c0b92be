use Rattle.std.proofs.Common.{ap, sym, ◌∙◌}
use Rattle.std.specs.Prelude.{option_map, slice_get}
use Rattle.lj_book.specs.declared.entry.Entry.{Entry}
use Rattle.lj_book.specs.Named.{NamedState}
use Rattle.lj_book.proofs.OverLaws.{seat-over}
use Rattle.lj_book.proofs.book.Book.seat_at.Goals as goal

pub returns : goal.returns
returns c =
    c.seat_at.ensures ∙ sym (seat-over c.self.inside.variables.variables c.self.inside.joint.history c.args.place)
    ∙ ap (λ (s : NamedState). option_map (λ (e : Entry). e.seat) (slice_get s.history c.args.place)) c.self.view_is
