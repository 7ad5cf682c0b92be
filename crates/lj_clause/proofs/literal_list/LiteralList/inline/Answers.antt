use Rattle.lj_clause.proofs.ShortLists.{rising_none}
use Rattle.lj_clause.proofs.literal_list.LiteralList.inline.Goals as goal

pub returns-then-is_empty-clause-rising : goal.returns-then-is_empty-clause-rising
returns-then-is_empty-clause-rising c = rising_none
