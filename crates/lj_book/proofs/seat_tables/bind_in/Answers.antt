use Rattle.std.proofs.Common.{ap, ◌∙◌}
use Rattle.std.specs.FinMap as fin
use Rattle.lj_book.proofs.TableLaws.{remove-insert}
use Rattle.lj_book.proofs.seat_tables.bind_in.Goals as goal

pub returns-in-Err-clause-err : goal.returns-in-Err-clause-err
returns-in-Err-clause-err c = (
  c.remove.ensures.removed ∙ ap (λ m. fin.remove m c.args.own) c.in_ok-insert.ensures.ok ∙ remove-insert c.args.table.now c.args.own c.args.joint c.requires.unbound,
  c.in-Err.ensures.err,
)
