-- A receipt in a clause map that has its listed clauses.
use Rattle.std.proofs.Common.{◌≡◌, suc, ap, refl, ◌∙◌, arith}
use Rattle.std.specs.Prelude.{List, [], ◌∷◌, Some, All}
use Rattle.std.specs.FinMap.{get}
use Rattle.lj_clause.specs.LiteralSet.{negations}
use Rattle.lj_clause.specs.ClauseMap.{ClauseMap}
use Rattle.lj_clause.specs.Propagation.{propagate_over, is_closed, hints_in, Hint}
use Rattle.lj_clause.proofs.PropagationLaws.{satisfies-is_rup}
use Rattle.lj_hint.specs.declared.pair.Pair.{Pair}
use Rattle.lj_hint.specs.Hints.{named_hints, numbers}
use Rattle.lj_hint.specs.Laws.{ReceiptIsRup, ReceiptImplies}

hints_in-numbers : (p : ClauseMap) (ps : List Pair) → All (λ (h : Pair). get p h.joint ≡ Some h.clause) ps → hints_in p (numbers ps) ≡ named_hints ps
hints_in-numbers p [] has = refl
hints_in-numbers p (q ∷ ps) has =
    λ i. (let h : Hint = record { number = q.joint; clause = has 0 q (omega arith) i } in h) ∷ hints_in-numbers p ps (λ k d lt. has (suc k) d (omega arith)) i

pub receipt_rup : ReceiptIsRup
receipt_rup r p receipt has = ap (propagate_over (negations r.lemma.clause)) (hints_in-numbers p r.listed has) ∙ receipt

pub receipt_implied : ReceiptImplies
receipt_implied r p a receipt has all = satisfies-is_rup p r.lemma.clause (numbers r.listed) a (ap is_closed (receipt_rup r p receipt has)) all
