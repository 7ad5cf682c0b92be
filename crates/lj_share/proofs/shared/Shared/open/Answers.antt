use Rattle.std.proofs.Common.{length, sym, ap, ◌∙◌}
use Rattle.std.proofs.lemmas.List.{length-map}
use Rattle.lj_share.specs.declared.copies.BookCopy.{BookCopy}
use Rattle.lj_share.specs.declared.copies.SeatCopy.{SeatCopy}
use Rattle.lj_share.proofs.shared.Shared.open.Goals as goal

pub seats_of-requires-clause-many : goal.seats_of-requires-clause-many
seats_of-requires-clause-many g c =
    ap length c.new-lists.ensures
    ∙ length-map c.opening_parts.inside.locked_book.items (λ (c : BookCopy). c.seat)
    ∙ sym (length-map c.opening_parts.inside.locked_book.items (λ (c : BookCopy). c.name))
    ∙ ap length c.opening_parts.invariant.0
    ∙ length-map c.opening_parts.inside.seats.items (λ (c : SeatCopy). c.name)
