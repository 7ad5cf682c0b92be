use Rattle.std.proofs.Common.{ap, sym, ◌∙◌}
use Rattle.std.specs.FinMap as fin
use Rattle.lj_book.proofs.NumberMaps.{get_key, one_removed}
use Rattle.lj_book.proofs.tree_map.TreeMap.remove_from_nodes.Goals as goal

pub returns-clause-before : goal.returns-clause-before
returns-clause-before g c = c.remove.ensures.value ∙ sym (get_key c.self.inside.entries.entries c.args.key) ∙ ap (λ m. fin.get m c.args.key) c.self.view_is

pub returns-clause-removed : goal.returns-clause-removed
returns-clause-removed g c =
    one_removed c.self.inside.entries.entries c.remove.new.self.entries c.args.key c.remove.ensures.updates.0
    ∙ ap (λ m. fin.remove m c.args.key) c.self.view_is
