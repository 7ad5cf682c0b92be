use Rattle.std.proofs.Common.{ap, sym, ◌∙◌, ◌++◌, ◌∷◌, [], List, arith}
use Rattle.lj_clause.specs.Rat.{HintGroup}
use Rattle.lj_hint.specs.inner.Groups.{read_group}
use Rattle.lj_hint.proofs.Coverings.{next_read}
use Rattle.lj_hint.proofs.covering.first_groups.Goals as goal

pub loop-index-preserved : goal.loop-index-preserved
loop-index-preserved g c =
    let gs = g.G.GroupList.groups c.args.groups.now in
    let hs = g.G.Hints.HintList.hints c.hints-hints.result in
    c.in_ok-put_first.ensures
    ∙ ap (λ (fs : List HintGroup). fs ++ read_group c.candidate.result hs c.count-in-loop-index.result ∷ []) c.loop-index.invariant
    ∙ sym (next_read gs c.loop-index.index c.candidate.result c.count-in-loop-index.result hs (omega (arith, c.loop-index-test.true, c.min-index-end.ensures, c.count.ensures)) c.candidate.ensures c.hints-hints.ensures c.count-in-loop-index.ensures)
