use Rattle.std.proofs.Common.{ap, sym, ◌∙◌, ◌<◌, length, arith}
use Rattle.lj_clause.specs.Rat.{NamedGroup}
use Rattle.lj_hint.specs.Hints.{named_hints}
use Rattle.lj_hint.proofs.RatTests.{pair_group, pairs_counted}
use Rattle.lj_hint.proofs.group_list.PairGroupsGroupList.hints.Goals as goal

pub returns : goal.returns
returns c =
    let within : c.args.index < length c.args.self.now.groups.now = omega (arith, c.requires, pairs_counted c.args.self.now.groups.now) in
    ap named_hints c.deref.ensures.value
    ∙ sym (ap (λ (h : NamedGroup). h.hints) (pair_group c.args.self.now.groups.now c.args.index c.index-self-index.result within))
