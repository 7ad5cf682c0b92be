use Rattle.std.proofs.Common.{sym, ◌∙◌, subst}
use Rattle.std.specs.Prelude.{ℤ, List, None}
use Rattle.lj_book.specs.inner.Ranges.{AreRecorded}
use Rattle.lj_book.proofs.RangeLaws.{Recorded-opening}
use Rattle.lj_book.proofs.clause_log.ClauseLog.open.Goals as goal

pub invariant_of-result : goal.invariant_of-result
invariant_of-result c =
    subst (λ (ls : List ℤ). AreRecorded ls c.in_ok-lits.ranges None c.new.result c.len.result) (sym (c.reserve_first.ensures.kept ∙ c.over-history.ensures.lits))
    (Recorded-opening c.in_ok-lits.lits.items c.in_ok-lits.ranges c.args.formula.now c.new.result c.len.result c.in_ok-lits.ensures.ranges c.in_ok-lits.ensures.clauses c.len.ensures.len c.variables.ensures.formula (c.new.ensures.top ∙ c.variables.ensures.variables) c.new.ensures.none)
