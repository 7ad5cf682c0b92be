-- A test that answers open has its propagation open.
use Rattle.std.proofs.Common.{◌≡◌, ap, ◌∙◌, refl}
use Rattle.lj_clause.specs.LiteralSet.{LiteralSet}
use Rattle.lj_clause.specs.Propagation as propagate
use Rattle.lj_hint.specs.Case.{CaseValue, propagation_of}
use Rattle.lj_hint.specs.Tested.{tested_of}
use Rattle.lj_hint.specs.declared.tested.Tested.{Tested}
use Rattle.lj_hint.specs.declared.tested.Tested.TheVariants as tests
use Rattle.lj_tests.proofs.book.groups_over_nothing.Goals as goal

same_case : (c d : CaseValue) → ◌≡◌ {A = Tested} (tests.Open c) (tests.Open d) → c ≡ d
same_case c d e = cc

is_open : (c d : CaseValue) → ◌≡◌ {A = Tested} (tests.Open d) (tested_of c (propagation_of c)) → (a : LiteralSet) × (propagation_of d ≡ propagate.Open a)
is_open c d e = by-propagate (propagation_of c) refl e
  where
    by-propagate : (w : propagate.Propagation) → propagation_of c ≡ w → ◌≡◌ {A = Tested} (tests.Open d) (tested_of c w) → (a : LiteralSet) × (propagation_of d ≡ propagate.Open a)
    by-propagate (propagate.Open a) is e = (a, ap propagation_of (same_case d c e) ∙ is)
    by-propagate (propagate.Closed used) is e = absurd (cc)
    by-propagate (propagate.Stuck place) is e = absurd (cc)

pub rat_test-requires : goal.rat_test-requires
rat_test-requires c = is_open _ c.in-Open.case c.in-Open.ensures.propagate
