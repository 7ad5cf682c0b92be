use Rattle.std.proofs.Common.{ap, ◌∙◌}
use Rattle.lj_book.specs.Tables.{Tables, without_keys, without_seat}
use Rattle.lj_book.proofs.LeaveLaws.{emptied, without_seat-with_table}
use Rattle.lj_book.proofs.seat_tables.SeatTables.leave.Goals as goal

pub close-requires : goal.close-requires
close-requires c = emptied c.args.self.now c.unbind_all.new.self c.args.seat c.args.numbers.now c.requires.here c.requires.all c.unbind_all.ensures.removed

pub returns : goal.returns
returns c =
    c.close.ensures
    ∙ ap (λ (us : Tables). without_seat us c.args.seat) c.unbind_all.ensures.removed
    ∙ without_seat-with_table (without_keys c.args.numbers.now) c.args.self.now c.args.seat
