use Rattle.std.proofs.Common.{ap, sym, ◌∙◌}
use Rattle.std.specs.Prelude.{Some}
use Rattle.lj_text.specs.declared.line.Line.TheVariants as lines
use Rattle.lj_book.specs.Named.{after_named}
use Rattle.lj_book.specs.NamedInside.{named_inside_entry}
use Rattle.lj_run.specs.Run.{if_accepted, state_after_line}
use Rattle.lj_run.proofs.book_seat.BookSeat.enter.Goals as goal

pub returns-in-Ok-clause-ok : goal.returns-in-Ok-clause-ok
returns-in-Ok-clause-ok c =
    ap (state_after_line c.args.self.now.number c.args.self.now.book) (c.in-Add.is ∙ ap lines.Add (sym c.deref.ensures))
    ∙ (λ i. if_accepted (c.in-Ok.ensures.reply i) (after_named c.args.self.now.book (named_inside_entry c.args.self.now.book c.args.self.now.number c.deref.result.now)))
    ∙ ap Some (sym c.in-Ok.ensures.ok)
