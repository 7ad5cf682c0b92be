use Rattle.std.proofs.Common.{ap, sym, ◌∙◌}
use Rattle.std.specs.FinMap as fin
use Rattle.lj_book.proofs.NumberMaps.{get_key}
use Rattle.lj_book.proofs.tree_map.TreeMap.get_in_nodes.Goals as goal

pub returns : goal.returns
returns g c = c.get.ensures.value ∙ sym (get_key c.self.inside.entries.entries c.args.key) ∙ ap (λ m. fin.get m c.args.key) c.self.view_is
