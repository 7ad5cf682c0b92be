use Rattle.lj_book.proofs.NamedInsideLaws.{replies_are_beneath, entries_are_beneath}
use Rattle.lj_book.proofs.inside_laws.additions_are_beneath.Goals as goal

pub returns-clause-replies : goal.returns-clause-replies
returns-clause-replies c = replies_are_beneath

pub returns-clause-entries : goal.returns-clause-entries
returns-clause-entries c = entries_are_beneath
