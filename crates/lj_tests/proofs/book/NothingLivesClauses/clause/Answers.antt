use Rattle.std.proofs.Common.{sym, nat_cmp}
use Rattle.std.specs.FinMap.{get-empty}
use Rattle.lj_tests.proofs.book.NothingLivesClauses.clause.Goals as goal

pub returns : goal.returns
returns c = sym (get-empty nat_cmp c.args._number)
