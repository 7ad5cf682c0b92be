use Rattle.std.proofs.Common.{ap, sym, ◌∙◌, subst, ◌+◌}
use Rattle.std.specs.Prelude.{Option}
use Rattle.std.specs.FinMap as fin
use Rattle.lj_clause.specs.ClauseMap.{ClauseMap}
use Rattle.lj_book.specs.Lookup.{least_part}
use Rattle.lj_book.specs.inner.Occurrences.{Lists, AreOccurrences, AreListed}
use Rattle.lj_book.specs.inner.Ranges.{stored}
use Rattle.lj_book.proofs.clause_log.ClauseLog.least_part.Goals as goal

pub returns-clause-least : goal.returns-clause-least
returns-clause-least c =
    let live = stored c.self.inside.history.lits c.self.inside.ranges in
    let is = c.lent-2.ensures ∙ ap (λ r. r.live) (sym c.self.view_is) in
    let are = subst (λ (o : Option Lists). AreListed o live (c.self.inside.last + 1)) c.in-Some.is c.self.invariant.indexed.listed in
    c.least_part-least.ensures (c.self.inside.last + 1) (subst (λ (p : ClauseMap). AreOccurrences c.in-Some.lists (fin.get p) (c.self.inside.last + 1)) (sym is) are)
    ∙ ap (λ (p : ClauseMap). least_part p c.args.wanted.now) is
    ∙ ap (λ r. least_part r.live c.args.wanted.now) c.self.view_is
