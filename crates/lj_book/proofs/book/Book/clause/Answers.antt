use Rattle.std.proofs.Common.{ap, ◌∙◌}
use Rattle.std.specs.FinMap as fin
use Rattle.lj_book.specs.State.{State, live}
use Rattle.lj_book.proofs.OverLaws.{under}
use Rattle.lj_book.proofs.book.Book.clause.Goals as goal

pub returns : goal.returns
returns c = c.clause.ensures ∙ ap (λ (j : State). fin.get (live j) c.args.joint) (under _ _ _ c.self.invariant c.self.view_is)
