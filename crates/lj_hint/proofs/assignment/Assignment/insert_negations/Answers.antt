use Rattle.std.proofs.Common.{ap, sym, ◌∙◌, subst}
use Rattle.std.specs.Prelude.{neg_ℤ}
use Rattle.lj_clause.specs.LiteralSet.{LiteralSet, from_literals, with_literal}
use Rattle.lj_hint.specs.inner.Trail.{Extends}
use Rattle.lj_hint.proofs.Inserts.{with_negations-more}
use Rattle.lj_hint.proofs.TrailLaws.{from_literals-with_assigned, Extends-trans, Extends-with_assigned}
use Rattle.lj_hint.proofs.assignment.Assignment.insert_negations.Goals as goal

pub loop-lit-preserved : goal.loop-lit-preserved
loop-lit-preserved c =
    let before = c.loop-lit.self in
    let ok = c.in_ok-insert.ensures.ok in (
      ap from_literals ok
          ∙ from_literals-with_assigned before c.negated.result
          ∙ ap (with_literal (from_literals before)) c.negated.ensures
          ∙ ap (λ (s : LiteralSet). with_literal s (neg_ℤ c.lit-item.result)) c.loop-lit.invariant.0
          ∙ with_negations-more (from_literals c.args.self.now) c.args.lits.now c.loop-lit.lit-index c.lit-item.result c.lit-item.is c.loop-lit-test.true,
      Extends-trans c.args.self.now before c.insert.new.self c.loop-lit.invariant.1 (subst (Extends before) (sym ok) (Extends-with_assigned before c.negated.result)),
    )
