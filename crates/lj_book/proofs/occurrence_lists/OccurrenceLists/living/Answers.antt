use Rattle.std.proofs.Common.{ap, sym, ◌∙◌}
use Rattle.std.specs.Prelude.{filter}
use Rattle.std.specs.FinMap as fin
use Rattle.lj_book.specs.inner.Occurrences.{Lists, list_at}
use Rattle.lj_book.specs.inner.Chains.{chain}
use Rattle.lj_book.proofs.Slots.{if_ok_then}
use Rattle.lj_book.proofs.Chains.{list_chained}
use Rattle.lj_book.proofs.occurrence_lists.OccurrenceLists.living.Goals as goal

pub returns : goal.returns
returns c =
    if_ok_then c.living_before.result _ _ c.living_before.ensures (λ v e. e
    ∙ ap (filter (λ n. fin.contains_key c.args.clauses.now n))
    ((λ i. chain (c.deref.ensures.value i) (c.last_of.ensures i))
    ∙ sym (list_chained c.self.inside.links.items c.self.inside.lasts c.args.key)
    ∙ ap (λ (m : Lists). list_at m c.args.key) c.self.view_is))
