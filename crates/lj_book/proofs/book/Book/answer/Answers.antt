use Rattle.lj_book.proofs.book.Book.answer.Goals as goal

pub returns-in-Inside-clause-run : goal.returns-in-Inside-clause-run
returns-in-Inside-clause-run c = rw c.in-Inside.is (c.answer_inside.ensures.run c.args.pending.now)

pub returns-in-Drop-clause-run : goal.returns-in-Drop-clause-run
returns-in-Drop-clause-run c = rw c.in-Drop.is (c.answer_drop.ensures c.args.pending.now)

pub returns-in-Adopt-clause-run : goal.returns-in-Adopt-clause-run
returns-in-Adopt-clause-run c = rw c.in-Adopt.is (c.answer_adopt.ensures c.args.pending.now)

pub returns-in-Import-clause-run : goal.returns-in-Import-clause-run
returns-in-Import-clause-run c = rw c.in-Import.is (c.answer_import.ensures c.args.pending.now)

pub returns-in-Leave-clause-run : goal.returns-in-Leave-clause-run
returns-in-Leave-clause-run c = rw c.in-Leave.is (c.answer_leave.ensures c.args.pending.now)

pub returns-in-Inside-clause-private : goal.returns-in-Inside-clause-private
returns-in-Inside-clause-private c = rw c.in-Inside.is c.answer_inside.ensures.private
