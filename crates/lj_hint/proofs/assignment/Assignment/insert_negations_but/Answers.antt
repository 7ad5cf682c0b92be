use Rattle.std.proofs.Common.{ap, sym, ◌∙◌, subst}
use Rattle.std.specs.Prelude.{ℤ, not, neg_ℤ}
use Rattle.std.specs.Ordering.{eq_by_cmp}
use Rattle.lj_clause.specs.Literal.{lit_cmp}
use Rattle.lj_clause.specs.LiteralSet.{LiteralSet, from_literals, with_literal}
use Rattle.lj_hint.specs.inner.Trail.{Extends}
use Rattle.lj_hint.proofs.Inserts.{with_negations-passed, with_negations-skipped}
use Rattle.lj_hint.proofs.TrailLaws.{from_literals-with_assigned, Extends-trans, Extends-with_assigned}
use Rattle.lj_hint.proofs.assignment.Assignment.insert_negations_but.Goals as goal
use Rattle.lj_hint.proofs.assignment.Assignment.insert_negations_but.Goals.{then-ne+in_ok-insert, else-ne}

pub loop-other-preserved : goal.loop-other-preserved
loop-other-preserved c =
    let before = c.loop-other.self in
    let old = from_literals c.args.self.now in
    let test = λ (m : ℤ). not (eq_by_cmp lit_cmp m c.args.but) in
    elim c.if-ne.branch [
      | then-ne+in_ok-insert w ↦
          let ok = w.self-is ∙ w.in_ok-insert.ensures.ok in (
            ap from_literals ok
                ∙ from_literals-with_assigned before w.negated.result
                ∙ ap (with_literal (from_literals before)) w.negated.ensures
                ∙ ap (λ (s : LiteralSet). with_literal s (neg_ℤ c.other-item.result)) c.loop-other.invariant.0
                ∙ with_negations-passed old test c.args.lits.now c.loop-other.other-index c.other-item.result c.other-item.is c.loop-other-test.true (sym c.ne.ensures ∙ w.if-ne.true),
            Extends-trans c.args.self.now before c.if-ne.self c.loop-other.invariant.1 (subst (Extends before) (sym ok) (Extends-with_assigned before w.negated.result)),
          )
      | else-ne w ↦ (
        ap from_literals w.self-is
            ∙ c.loop-other.invariant.0
            ∙ with_negations-skipped old test c.args.lits.now c.loop-other.other-index c.other-item.result c.other-item.is c.loop-other-test.true (sym c.ne.ensures ∙ w.if-ne.false),
        subst (Extends c.args.self.now) (sym w.self-is) c.loop-other.invariant.1,
      )
    ]
