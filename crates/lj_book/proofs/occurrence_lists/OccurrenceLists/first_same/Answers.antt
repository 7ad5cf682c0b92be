use Rattle.std.proofs.Common.{ap, sym, ◌∙◌, ℕ}
use Rattle.std.specs.Prelude.{List, filter, slice_get}
use Rattle.std.specs.FinMap as fin
use Rattle.lj_book.specs.Lookup.{is_clause}
use Rattle.lj_book.specs.inner.Occurrences.{Lists, list_at}
use Rattle.lj_book.specs.inner.Chains.{chain}
use Rattle.lj_book.proofs.Chains.{list_chained}
use Rattle.lj_book.proofs.occurrence_lists.OccurrenceLists.first_same.Goals as goal

pub returns : goal.returns
returns c =
    c.first_before.ensures
    ∙ ap (λ (ns : List ℕ). slice_get (filter (λ n. is_clause c.args.wanted.now (fin.get c.args.clauses.now n)) ns) 0)
    ((λ i. chain (c.deref.ensures.value i) (c.last_of.ensures i))
    ∙ sym (list_chained c.self.inside.links.items c.self.inside.lasts c.args.key)
    ∙ ap (λ (m : Lists). list_at m c.args.key) c.self.view_is)
