use Rattle.std.proofs.Common.{ap, sym, ◌∙◌}
use Rattle.std.specs.Prelude.{filter}
use Rattle.std.specs.FinMap as fin
use Rattle.lj_book.specs.inner.Occurrences.{Lists, list_at}
use Rattle.lj_book.specs.inner.Chains.{chain}
use Rattle.lj_book.proofs.Chains.{swept, list_chained}
use Rattle.lj_book.proofs.occurrence_lists.OccurrenceLists.sweep.Goals as goal

pub returns : goal.returns
returns c = λ bound are ok.
    swept c.args.self.now c.relink.new.self c.args.clauses.now bound c.args.key c.deref-3.result.now
    (c.deref-3.ensures.value
    ∙ c.in-Ok.ensures
    ∙ ap (filter (λ n. fin.contains_key c.args.clauses.now n))
    ((λ i. chain (c.deref-2.ensures.value i) (c.last_of-last.ensures i))
    ∙ sym (list_chained c.self.inside.links.items c.self.inside.lasts c.args.key)
    ∙ ap (λ (m : Lists). list_at m c.args.key) c.self.view_is))
    (c.relink.ensures ok) are
