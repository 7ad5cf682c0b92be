use Rattle.std.proofs.Common.{◌≡◌, ap, sym, ◌∙◌, subst, ◌+◌}
use Rattle.std.specs.FinMap as fin
use Rattle.lj_clause.specs.ClauseMap.{ClauseMap}
use Rattle.lj_book.specs.inner.Occurrences.{AreListed}
use Rattle.lj_book.specs.inner.Ranges.{stored, AreRanges}
use Rattle.lj_book.specs.inner.FirstUses.{AreFirstUses}
use Rattle.lj_book.proofs.FirstUseLaws.{uses_fewer}
use Rattle.lj_book.proofs.OccurrenceLaws.{removed_get, listed_without, Indexed-remove}
use Rattle.lj_book.proofs.RangeLaws.{placed_remove, places_remove}
use Rattle.lj_book.proofs.clause_log.ClauseLog.remove.Goals as goal

pub invariant_of-self : goal.invariant_of-self
invariant_of-self c =
    let ls = c.self.inside.history.lits in
    let m = c.self.inside.ranges in
    let last = c.self.inside.last in
    let after : stored ls c.remove.new.self ≡ fin.remove (stored ls m) c.args.number = ap (stored ls) c.remove.ensures.removed ∙ placed_remove ls m c.args.number in
    record {
      ranges_are = subst (AreRanges ls) (sym c.remove.ensures.removed) (places_remove ls m c.args.number c.self.invariant.ranges_are);
      used = subst (λ (q : ClauseMap). AreFirstUses q last c.self.inside.uses) (sym after) (uses_fewer (stored ls m) (fin.remove (stored ls m) c.args.number) last c.self.inside.uses (λ n d e. removed_get (stored ls m) c.args.number n d e) c.self.invariant.used);
      indexed = Indexed-remove c.self.inside.lists c.self.inside.lists (stored ls m) (stored ls c.remove.new.self) last c.args.number c.self.invariant.indexed after
          (subst (λ (q : ClauseMap). AreListed c.self.inside.lists q (last + 1)) (sym after) (listed_without c.self.inside.lists (stored ls m) last c.args.number c.self.invariant.indexed));
    }

pub returns-clause-removed : goal.returns-clause-removed
returns-clause-removed c =
    ap (stored c.self.inside.history.lits) c.remove.ensures.removed
    ∙ placed_remove c.self.inside.history.lits c.self.inside.ranges c.args.number
    ∙ ap (λ r. fin.remove r.live c.args.number) c.self.view_is
