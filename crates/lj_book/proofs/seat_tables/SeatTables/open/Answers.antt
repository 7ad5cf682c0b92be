use Rattle.std.proofs.Common.{ap, sym, ◌∙◌}
use Rattle.lj_book.specs.Tables.{Tables}
use Rattle.lj_book.specs.inner.Holders.{Counted, count_at, holders_of}
use Rattle.lj_book.proofs.TableLaws.{AreHolders-opening}
use Rattle.lj_book.proofs.seat_tables.SeatTables.open.Goals as goal

pub invariant_of-result : goal.invariant_of-result
invariant_of-result c = λ q.
    ap (λ (m : Counted). count_at m q) c.in_ok-up_to.ensures
    ∙ AreHolders-opening c.args.seats c.args.clauses q
    ∙ ap (λ (ts : Tables). holders_of ts q) (sym c.in_ok-same_tables.ensures)
