use Rattle.std.proofs.Common.{ap, ◌∙◌, arith, ◌<◌}
use Rattle.std.specs.Prelude.{length, is_some}
use Rattle.lj_book.specs.Tables.{Tables, table_of, without_seat}
use Rattle.lj_book.proofs.TableLaws.{here_in_range}
use Rattle.lj_book.proofs.LeaveLaws.{set-none, AreHolders-without_seat}
use Rattle.lj_book.proofs.seat_tables.SeatTables.close.Goals as goal

pub index_mut-requires : goal.index_mut-requires
index_mut-requires c =
    let ts = c.self.inside.seats.items in
    let lt : c.args.seat < length ts = here_in_range ts c.args.seat (ap (λ (us : Tables). is_some (table_of us c.args.seat)) c.self.view_is ∙ ap is_some c.requires) in
    omega (arith, c.self.inside.seats.ok.0)

pub invariant_of-self : goal.invariant_of-self
invariant_of-self c =
    AreHolders-without_seat c.self.inside.seats.items c.args.seat c.self.inside.holders (ap (λ (us : Tables). table_of us c.args.seat) c.self.view_is ∙ c.requires) c.self.invariant

pub returns : goal.returns
returns c = set-none c.self.inside.seats.items c.args.seat ∙ ap (λ (us : Tables). without_seat us c.args.seat) c.self.view_is
