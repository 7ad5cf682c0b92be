use Rattle.std.proofs.Common.{◌∙◌, arith}
use Rattle.lj_hint.proofs.RatTests.{group_here}
use Rattle.lj_hint.proofs.rat.first_position.Goals as goal

pub returns-then-candidate-number : goal.returns-then-candidate-number
returns-then-candidate-number g c =
    let gs = g.G.GroupList.groups c.args.groups.now in
    group_here gs c.loop-index.index c.args.number (omega (arith, c.loop-index-test.true, c.count-index-end.ensures)) (omega (arith, c.if-candidate-number.true, c.candidate.ensures))
    ∙ c.loop-index.invariant
