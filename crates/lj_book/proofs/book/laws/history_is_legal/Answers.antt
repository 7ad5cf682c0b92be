use Rattle.std.proofs.Common.{subst}
use Rattle.lj_book.specs.Named.{NamedState, IsNamedReached}
use Rattle.lj_book.proofs.book.laws.history_is_legal.Goals as goal

pub returns : goal.returns
returns c = subst (λ (s : NamedState). IsNamedReached s) c.book.view_is c.book.invariant.reached
