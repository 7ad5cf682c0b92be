use Rattle.std.proofs.Common.{ap, ◌∙◌}
use Rattle.std.specs.Prelude.{not}
use Rattle.lj_hint.proofs.Coverings.{stays_given}
use Rattle.lj_hint.proofs.covering.cover_one.Goals as goal

pub returns-then-is_as_given : goal.returns-then-is_as_given
returns-then-is_as_given g c =
    let gs = g.G.GroupList.groups c.args.groups.now in
    let is = c.if-is_as_given.true in
    stays_given gs c.args.index c.args.candidate c.args.read c.args.position c.args.covered.now (c.is_none.ensures ∙ ap not c.if-is_none.true) (c.is_as_given.ensures.within is) (c.is_as_given.ensures.position is) (c.is_as_given.ensures.candidate is) (c.is_as_given.ensures.read is)
