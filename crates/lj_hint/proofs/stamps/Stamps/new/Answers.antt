use Rattle.lj_hint.proofs.StampLaws.{none_stamped}
use Rattle.lj_hint.proofs.stamps.Stamps.new.Goals as goal

pub returns : goal.returns
returns c = none_stamped (c.new.result.items, c.new-2.result.entries) c.new.ensures.items c.new-2.ensures.empty
