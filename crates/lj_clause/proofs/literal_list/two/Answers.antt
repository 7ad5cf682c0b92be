use Rattle.lj_clause.specs.LiteralSet.{no_literals}
use Rattle.lj_clause.proofs.ShortLists.{swap}
use Rattle.lj_clause.proofs.literal_list.two.Goals as goal

pub returns-then-lt-2-clause-same : goal.returns-then-lt-2-clause-same
returns-then-lt-2-clause-same c = swap no_literals c.args.a c.args.b
