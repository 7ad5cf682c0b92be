use Rattle.lj_hint.proofs.StampLaws.{none_stamped}
use Rattle.lj_hint.proofs.stamps.Stamps.clear.Goals as goal

pub returns : goal.returns
returns c = none_stamped (c.clear.new.self.items, c.clear-2.new.self.entries) c.clear.ensures.items c.clear-2.ensures.empty
