use Rattle.std.proofs.Common.{ap, sym, ◌∙◌}
use Rattle.std.specs.Prelude.{Some, option_map}
use Rattle.lj_book.specs.Named.{own_entry}
use Rattle.lj_book.proofs.OverLaws.{entry-over}
use Rattle.lj_book.proofs.book.Book.entry.Goals as goal

pub returns-in_ok-own_entry-in-Some : goal.returns-in_ok-own_entry-in-Some
returns-in_ok-own_entry-in-Some c =
    ap Some c.in_ok-own_entry-in-Some.ensures
    ∙ ap (option_map (own_entry c.args.self.now.variables)) (sym c.in-Some.is ∙ c.in_ok-entry.ensures)
    ∙ entry-over c.self.inside.joint c.self.inside.variables c.args.self.now c.self.view_is c.args.place

pub returns-in-None : goal.returns-in-None
returns-in-None c =
    ap (option_map (own_entry c.args.self.now.variables)) (sym c.in-None.is ∙ c.in_ok-entry.ensures)
    ∙ entry-over c.self.inside.joint c.self.inside.variables c.args.self.now c.self.view_is c.args.place
