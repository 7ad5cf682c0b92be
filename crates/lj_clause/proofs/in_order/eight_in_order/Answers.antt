use Rattle.std.proofs.Common.{rules, subst, sym}
use Rattle.std.specs.Prelude.{IsPermutation}
use Rattle.std.proofs.lemmas.List.Sorted.{IsPermutation-refl}
use Rattle.lj_clause.specs.inner.InOrder.{IsInOrder}
use Rattle.lj_clause.proofs.InOrder.{front-set}
use Rattle.lj_clause.proofs.in_order.eight_in_order.Goals as goal
use Rattle.lj_clause.proofs.in_order.eight_in_order.Goals.{then-not-are_rising, else-not-are_rising}

-- exchanged or not, the same literals
same-scratch : (c : goal.Then-are_in_order) → IsPermutation c.in_ok-scratch.scratch c.if-not-are_rising.scratch
same-scratch c = elim c.if-not-are_rising.branch [
  | then-not-are_rising w ↦ subst (λ scratch. IsPermutation c.in_ok-scratch.scratch scratch) (sym w.scratch-is) w.order_eight.ensures
  | else-not-are_rising w ↦ subst (λ scratch. IsPermutation c.in_ok-scratch.scratch scratch) (sym w.scratch-is) (IsPermutation-refl c.in_ok-scratch.scratch)
]

pub returns-then-are_in_order-clause-set : goal.returns-then-are_in_order-clause-set
returns-then-are_in_order-clause-set c =
    front-set c.args.lits.now.items c.in_ok-scratch.scratch c.if-not-are_rising.scratch c.in_ok-scratch.ensures.filled (same-scratch c)
    (subst (λ n. IsInOrder n c.if-not-are_rising.scratch) (search (rules, c.in_ok-scratch.ensures.same, c.len.ensures)) (c.are_in_order.ensures c.if-are_in_order.true))
