use Rattle.lj_book.proofs.GivenLaws.{named_gives_nothing}
use Rattle.lj_book.proofs.variable_laws.named_clauses_give_none.Goals as goal

pub returns : goal.returns
returns c = named_gives_nothing
