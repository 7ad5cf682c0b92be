use Rattle.std.proofs.Common.{List, Some, slice_set, sym, ap, ◌∙◌, arith}
use Rattle.std.specs.Prelude.{slice_get}
use Rattle.lj_share.specs.Seats.{SeatValue, seat_of_book}
use Rattle.lj_share.proofs.ListLaws.{seats_shown, place_within, name_at, list_at, names_kept, list_set}
use Rattle.lj_share.proofs.lists.Lists.follow.Goals as goal

pub index_mut-requires : goal.index_mut-requires
index_mut-requires g c =
    let within = place_within c.self.inside.copies.items g.L.BookId.lists c.args.seat c.args.copy.now.name c.self.invariant c.requires in
    omega (arith, within, c.self.inside.copies.ok.0)

pub follow-requires : goal.follow-requires
follow-requires g c = name_at c.self.inside.copies.items g.L.BookId.lists c.args.seat c.args.copy.now.name c.index_mut.result.now c.self.invariant c.requires c.index_mut.ensures.value

pub invariant_of-self : goal.invariant_of-self
invariant_of-self g c = names_kept c.self.inside.copies.items g.L.BookId.lists c.args.seat c.index_mut.result.now c.follow.new.self c.self.invariant c.index_mut.ensures.value c.follow.ensures.names.0

pub returns-clause-agree : goal.returns-clause-agree
returns-clause-agree g c =
    ap (λ (ls : List SeatValue). slice_get ls c.args.seat) (sym c.self.view_is)
    ∙ list_at c.self.inside.copies.items g.L.BookId.lists c.args.seat c.args.copy.now.name c.index_mut.result.now c.self.invariant c.requires c.index_mut.ensures.value
    ∙ ap Some (sym c.follow.ensures.agree)

pub returns-clause-locked_book : goal.returns-clause-locked_book
returns-clause-locked_book g c =
    list_set c.self.inside.copies.items c.args.seat c.follow.new.self
    ∙ ap (slice_set (seats_shown c.self.inside.copies.items) c.args.seat) c.follow.ensures.locked_book
    ∙ ap (λ (ls : List SeatValue). slice_set ls c.args.seat (seat_of_book c.args.book.now c.args.seat)) c.self.view_is
