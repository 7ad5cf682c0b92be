-- How a proof stores pairs, cases and receipts.
use Rattle.std.specs.Prelude.{ℕ, refl, List}
use Rattle.std.specs.Coded.{Coded, code_by, coded×, coded_ℕ, coded_list}
use Rattle.lj_clause.specs.LiteralSet.{LiteralSet}
use Rattle.lj_clause.specs.inner.Codes.{literal_set_code, lemma_code}
use Rattle.lj_hint.specs.declared.pair.Pair.{Pair}
use Rattle.lj_clause.specs.Lemma.{LemmaValue}
use Rattle.lj_hint.specs.Case.{CaseValue}
use Rattle.lj_hint.specs.Receipt.{ReceiptValue}

-- how a proof stores a pair
abbrev pub pair_code : Coded Pair
pair_code = code_by (ℕ × LiteralSet) (coded× coded_ℕ literal_set_code) (λ p. (p.joint, p.clause))
    (λ p. record { joint = p.0; clause = p.1 }) (λ _. refl)

-- how a proof stores one
abbrev pub case_code : Coded CaseValue
case_code =
    code_by (ℕ × (ℕ × (LemmaValue × (List Pair × List (Pair × List Pair)))))
    (coded× coded_ℕ (coded× coded_ℕ (coded× lemma_code
    (coded× (coded_list pair_code) (coded_list (coded× pair_code (coded_list pair_code)))))))
    (λ c. (c.seat, (c.own, (c.lemma, (c.hints, c.groups)))))
    (λ p. record
    { seat = p.0; own = p.1.0; lemma = p.1.1.0; hints = p.1.1.1.0; groups = p.1.1.1.1 })
    (λ _. refl)

-- how a proof stores one
abbrev pub receipt_code : Coded ReceiptValue
receipt_code =
    code_by (ℕ × (ℕ × (LemmaValue × List Pair)))
    (coded× coded_ℕ (coded× coded_ℕ (coded× lemma_code (coded_list pair_code))))
    (λ r. (r.seat, (r.own, (r.lemma, r.listed))))
    (λ p. record { seat = p.0; own = p.1.0; lemma = p.1.1.0; listed = p.1.1.1 }) (λ _. refl)
