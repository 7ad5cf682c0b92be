use Rattle.lj_book.proofs.NamedSoloRuns.{named_fresh}
use Rattle.lj_book.proofs.book.laws.fresh_receipts_are_not_stale.Goals as goal

pub returns : goal.returns
returns c = named_fresh
