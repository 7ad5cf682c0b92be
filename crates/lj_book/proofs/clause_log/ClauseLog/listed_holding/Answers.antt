use Rattle.std.proofs.Common.{ap, sym, ◌∙◌, subst, ◌+◌}
use Rattle.std.specs.Prelude.{Option, filter}
use Rattle.std.specs.FinMap as fin
use Rattle.lj_book.specs.Lookup.{numbers_holding}
use Rattle.lj_book.specs.inner.Occurrences.{Lists, AreListed, list_at}
use Rattle.lj_book.specs.inner.Ranges.{stored}
use Rattle.lj_book.proofs.Slots.{if_ok_then}
use Rattle.lj_book.proofs.OccurrenceLaws.{living_are}
use Rattle.lj_book.proofs.clause_log.ClauseLog.listed_holding.Goals as goal

pub returns-in-Some : goal.returns-in-Some
returns-in-Some c =
    let m = c.in-Some.lists in
    let live = stored c.self.inside.history.lits c.self.inside.ranges in
    let is = c.lent.ensures ∙ ap (λ r. r.live) (sym c.self.view_is) in
    let are = subst (λ (o : Option Lists). AreListed o live (c.self.inside.last + 1)) c.in-Some.is c.self.invariant.indexed.listed in
    if_ok_then c.living.result _ _ c.living.ensures (λ numbers e. e
    ∙ (λ i. filter (λ n. fin.contains_key (is i) n) (list_at m (c.index.ensures.index i)))
    ∙ living_are m live (c.self.inside.last + 1) c.args.lit are
    ∙ ap (λ r. numbers_holding r.live c.args.lit) c.self.view_is)
