use Rattle.std.proofs.Common.{ap, sym, ◌∙◌}
use Rattle.std.specs.Prelude.{nat_lt}
use Rattle.lj_book.specs.Tables.{has_holder}
use Rattle.lj_book.proofs.TableLaws.{held_counts}
use Rattle.lj_book.proofs.seat_tables.SeatTables.has_holder.Goals as goal

pub returns : goal.returns
returns c =
    c.is_counted.ensures ∙ ap (nat_lt 0) (c.self.invariant c.args.joint)
    ∙ sym (held_counts c.self.inside.seats.items c.args.joint)
    ∙ ap (λ ts. has_holder ts c.args.joint) c.self.view_is
