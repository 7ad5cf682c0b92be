use Rattle.std.proofs.Common.{ap, sym, ◌∙◌, subst}
use Rattle.std.specs.Prelude.{ℤ, List}
use Rattle.lj_book.specs.inner.Ranges.{stored, AreRecorded}
use Rattle.lj_book.proofs.RangeLaws.{Recorded-stays, placed_stays}
use Rattle.lj_book.proofs.clause_log.ClauseLog.push_binding.Goals as goal

pub invariant_of-self : goal.invariant_of-self
invariant_of-self c =
    subst (λ (ls : List ℤ). AreRecorded ls c.self.inside.ranges c.self.inside.lists c.self.inside.uses c.self.inside.last) (sym c.push_binding.ensures.lits)
    (Recorded-stays c.self.inside.history.lits _ c.self.inside.ranges c.self.inside.lists c.self.inside.uses c.self.inside.last c.self.invariant)

pub returns-clause-lives : goal.returns-clause-lives
returns-clause-lives c =
    ap (λ (ls : List ℤ). stored ls c.self.inside.ranges) c.push_binding.ensures.lits
    ∙ placed_stays c.self.inside.history.lits _ c.self.inside.ranges c.self.invariant.ranges_are
    ∙ ap (λ r. r.live) c.self.view_is
