use Rattle.lj_book.proofs.NamedSoloRuns.{named_alone}
use Rattle.lj_book.proofs.book.laws.tidy_seats_are_alone.Goals as goal

pub returns : goal.returns
returns c = named_alone
