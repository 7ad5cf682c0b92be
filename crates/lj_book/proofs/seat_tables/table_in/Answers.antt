use Rattle.std.proofs.Common.{sym, ◌∙◌}
use Rattle.lj_book.proofs.TableLaws.{table_of-at, table_of-past}
use Rattle.lj_book.proofs.seat_tables.table_in.Goals as goal

pub returns-in-Some : goal.returns-in-Some
returns-in-Some c =
    c.as_ref.ensures.value ∙ c.in-Some.ensures.lookup.1
    ∙ sym (table_of-at c.args.seats.now c.args.seat _ c.in-Some.ensures.lookup.3.0)

pub returns-in-None : goal.returns-in-None
returns-in-None c = sym (table_of-past c.args.seats.now c.args.seat c.in-None.ensures.lookup.3)
