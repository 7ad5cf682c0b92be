use Rattle.std.proofs.Common.{◌≡◌, subst}
use Rattle.std.specs.Prelude.{IfOk}
use Rattle.lj_book.specs.Lookup.{numbers_holding}
use Rattle.lj_book.specs.State.{State, live}
use Rattle.lj_book.proofs.OverLaws.{under}
use Rattle.lj_book.proofs.book.Book.candidates.Goals as goal

pub returns : goal.returns
returns c = subst (λ (j : State). IfOk c.candidates.result (λ numbers. numbers.items ≡ numbers_holding (live j) c.args.lit)) (under _ _ _ c.self.invariant c.self.view_is) c.candidates.ensures
