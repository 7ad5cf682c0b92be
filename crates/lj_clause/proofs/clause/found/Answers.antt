use Rattle.std.proofs.Common.{sym, ◌∙◌}
use Rattle.lj_clause.proofs.LiteralSets.{holds-from_literals}
use Rattle.lj_clause.proofs.Searches.{found_is}
use Rattle.lj_clause.proofs.clause.found.Goals as goal

pub returns : goal.returns
returns c =
    let e = found_is c.args.lits.now c.args.lit c.binary_search.result c.requires c.binary_search.ensures.bound c.binary_search.ensures.position in
    c.is_ok.ensures.value ∙ e ∙ sym (holds-from_literals c.args.lits.now c.args.lit)
