use Rattle.lj_book.proofs.NamedAlone.{views_follow}
use Rattle.lj_book.proofs.variable_laws.views_follow_entries.Goals as goal

pub returns : goal.returns
returns c = views_follow
