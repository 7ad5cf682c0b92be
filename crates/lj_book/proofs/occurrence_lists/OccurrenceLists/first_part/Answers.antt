use Rattle.std.proofs.Common.{ap, sym, ◌∙◌, ℕ}
use Rattle.std.specs.Prelude.{List, filter, slice_get}
use Rattle.std.specs.FinMap as fin
use Rattle.lj_book.specs.inner.Parts.{first_key, begins_part}
use Rattle.lj_book.specs.inner.Occurrences.{Lists, list_at}
use Rattle.lj_book.specs.inner.Chains.{chain, last_at}
use Rattle.lj_book.proofs.Chains.{list_chained}
use Rattle.lj_book.proofs.occurrence_lists.OccurrenceLists.first_part.Goals as goal

pub returns : goal.returns
returns c =
    c.part_before.ensures
    ∙ ap (λ (ns : List ℕ). slice_get (filter (λ n. begins_part c.args.wanted.now c.args.first.now (fin.get c.args.clauses.now n)) ns) 0)
    ((λ i. chain (c.deref.ensures.value i) ((c.last_of.ensures ∙ ap (last_at c.self.inside.lasts) c.first_key-key.ensures) i))
    ∙ sym (list_chained c.self.inside.links.items c.self.inside.lasts (first_key c.args.first.now))
    ∙ ap (λ (m : Lists). list_at m (first_key c.args.first.now)) c.self.view_is)
