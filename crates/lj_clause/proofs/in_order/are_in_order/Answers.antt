use Rattle.std.proofs.Common.{◌≡◌, true, rules, arith, refl, sym, ◌∙◌, subst}
use Rattle.std.specs.declared.cmp.Ordering.{Ordering}
use Rattle.std.specs.declared.cmp.Ordering.TheVariants.{Less, Equal, Greater}
use Rattle.std.specs.Ordering.{is_lt}
use Rattle.std.proofs.lemmas.Bool.{and_parts}
use Rattle.lj_clause.specs.inner.InOrder.{filler}
use Rattle.lj_clause.proofs.Literals.{same_literal}
use Rattle.lj_clause.proofs.InOrder.{below-at, filler-at, one-more, in-order, InOrderTo}
use Rattle.lj_clause.proofs.in_order.are_in_order.Goals as goal
use Rattle.lj_clause.proofs.in_order.are_in_order.Goals.{then-count-i, else-count-i+then-i-eq0, else-count-i+else-i-eq0}

less-from : (o : Ordering) → is_lt o ≡ true → o ≡ Less
less-from Less e = refl
less-from Equal e = cc
less-from Greater e = cc

pub loop-i-preserved : goal.loop-i-preserved
loop-i-preserved c = λ both.
    let l = c.loop-i in
    let parts = and_parts l.right c.if-count-i.right both in
    elim c.if-count-i.branch [
      | then-count-i w ↦ one-more l.i c.args.count c.args.lits.now (λ lt some. absurd (omega (arith, w.if-count-i.true, lt)))
          (λ le. filler-at c.args.lits.now l.i w.index-lits-i.result c.loop-i-test.true w.index-lits-i.is
          (same_literal w.index-lits-i.result filler (search (rules, w.eq.ensures, w.right-is, parts.1)))) (l.invariant parts.0)
      | else-count-i+then-i-eq0 w ↦ one-more l.i c.args.count c.args.lits.now (λ lt some. absurd (omega (arith, w.if-i-eq0.true, some))) (λ le. absurd (omega (arith, w.if-count-i.false, le))) (l.invariant parts.0)
      | else-count-i+else-i-eq0 w ↦ one-more l.i c.args.count c.args.lits.now (λ lt some. below-at c.args.lits.now l.i w.index-lits-i-else-i-eq0.result w.index-lits-i-else-i-eq0-2.result some c.loop-i-test.true w.index-lits-i-else-i-eq0.is w.index-lits-i-else-i-eq0-2.is
          (less-from _ (sym w.lt.ensures ∙ sym w.right-is ∙ parts.1))) (λ le. absurd (omega (arith, w.if-count-i.false, le))) (l.invariant parts.0)
    ]

pub returns : goal.returns
returns c = λ yes. in-order c.args.count c.args.lits.now (subst (λ i. InOrderTo i c.args.count c.args.lits.now) (omega (arith, c.loop-i-test.false, c.loop-i.auto.i-end)) (c.loop-i.invariant yes))
