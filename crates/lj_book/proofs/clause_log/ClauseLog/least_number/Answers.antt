use Rattle.std.proofs.Common.{ap, sym, ◌∙◌, subst, ◌+◌}
use Rattle.std.specs.Prelude.{Option, filter, slice_get}
use Rattle.std.specs.FinMap as fin
use Rattle.lj_clause.specs.ClauseMap.{ClauseMap}
use Rattle.lj_book.specs.Lookup.{least_number, is_clause}
use Rattle.lj_book.specs.inner.Occurrences.{Lists, AreListed, list_at}
use Rattle.lj_book.specs.inner.Ranges.{stored}
use Rattle.lj_book.proofs.OccurrenceLaws.{first_is_least}
use Rattle.lj_book.proofs.clause_log.ClauseLog.least_number.Goals as goal

pub returns-clause-least : goal.returns-clause-least
returns-clause-least c =
    let p = c.lent-2.result in
    let live = stored c.self.inside.history.lits c.self.inside.ranges in
    let is = c.lent-2.ensures ∙ ap (λ r. r.live) (sym c.self.view_is) in
    let are = subst (λ (o : Option Lists). AreListed o live (c.self.inside.last + 1)) c.in-Some.is c.self.invariant.indexed.listed in
    c.first_same-least.ensures
    ∙ ap (λ (q : ClauseMap). slice_get (filter (λ n. is_clause c.args.wanted.now (fin.get q n)) (list_at c.in-Some.lists c.shortest_key-key.result)) 0) is
    ∙ first_is_least c.in-Some.lists live (c.self.inside.last + 1) c.shortest_key-key.result c.args.wanted.now are c.shortest_key-key.ensures
    ∙ ap (λ r. least_number r.live c.args.wanted.now) c.self.view_is
