use Rattle.std.proofs.Common.{◌≡◌, drop}
use Rattle.lj_book.specs.State.{live}
use Rattle.lj_book.specs.Variables.{renaming_of}
use Rattle.lj_book.specs.NamedReplies.{named_first_stale}
use Rattle.lj_book.proofs.book.committing.first_stale.Given as goal

abbrev pub invariant-loop-pair : goal.invariant-loop-pair
invariant-loop-pair l = named_first_stale l.variables.top (renaming_of l.variables.variables l.seat) (live l.book) (drop l.pair-index l.listed) ≡ named_first_stale l.variables.top (renaming_of l.variables.variables l.seat) (live l.book) l.listed
