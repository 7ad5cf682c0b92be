use Rattle.std.proofs.Common.{◌≡◌, sym, ◌∙◌, false}
use Rattle.std.specs.FinMap as fin
use Rattle.lj_book.specs.State.{live}
use Rattle.lj_book.specs.Named.{beneath}
use Rattle.lj_book.specs.inner.Over.{is_private}
use Rattle.lj_book.proofs.OverLaws.{adopt_over}
use Rattle.lj_book.proofs.book.Book.adopt.Goals as goal

pub invariant_of-self : goal.invariant_of-self
invariant_of-self c =
    let private : is_private c.args.self.now c.args.seat (fin.get (live (beneath c.args.self.now)) c.args.joint) ≡ false = sym c.is_private.ensures ∙ c.if-is_private.false in
    adopt_over c.self.inside.joint c.self.inside.variables c.args.self.now c.self.invariant c.self.view_is c.args.seat c.args.own c.args.joint private
    c.adopt-adopted.result c.adopt-adopted.new.self c.history_is_legal.ensures c.adopt-adopted.ensures.reply c.adopt-adopted.ensures.ok c.adopt-adopted.ensures.err
