use Rattle.std.proofs.Common.{ap, sym, ◌∙◌}
use Rattle.std.specs.FinMap as fin
use Rattle.lj_book.proofs.Slots.{on_err}
use Rattle.lj_book.proofs.NumberMaps.{get_key, one_put}
use Rattle.lj_book.proofs.tree_map.TreeMap.insert.Goals as goal

pub returns-in_err-insert-clause-absent : goal.returns-in_err-insert-clause-absent
returns-in_err-insert-clause-absent g c =
    on_err c.from_residual.result _ (ap (λ m. fin.get m c.args.key) (sym c.self.view_is) ∙ get_key c.self.inside.entries.entries c.args.key ∙ c.in_err-insert.ensures.absent)

pub returns-clause-ok : goal.returns-clause-ok
returns-clause-ok g c =
    one_put c.self.inside.entries.entries c.insert.new.self.entries c.args.key c.args.value c.in_ok-insert.ensures.updates.0
    ∙ ap (λ m. fin.insert m c.args.key c.args.value) c.self.view_is
