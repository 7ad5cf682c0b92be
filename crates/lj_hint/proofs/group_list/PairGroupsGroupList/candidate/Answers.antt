use Rattle.std.proofs.Common.{ap, sym, ◌<◌, length, arith}
use Rattle.lj_clause.specs.Rat.{NamedGroup}
use Rattle.lj_hint.proofs.RatTests.{pair_group, pairs_counted}
use Rattle.lj_hint.proofs.group_list.PairGroupsGroupList.candidate.Goals as goal

pub returns : goal.returns
returns c =
    let within : c.args.index < length c.args.self.now.groups.now = omega (arith, c.requires, pairs_counted c.args.self.now.groups.now) in
    sym (ap (λ (h : NamedGroup). h.candidate) (pair_group c.args.self.now.groups.now c.args.index c.index-self-index.result within))
