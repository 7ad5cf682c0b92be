-- What a renaming of variables makes of cases and receipts.
use Rattle.std.specs.Prelude.{◌≡◌, ℕ, List, map, true, All}
use Rattle.lj_clause.specs.Renaming.{Renaming, image, lemma_image, is_named}
use Rattle.lj_hint.specs.declared.pair.Pair.{Pair}
use Rattle.lj_hint.specs.Case.{CaseValue, case_of}
use Rattle.lj_hint.specs.Receipt.{ReceiptValue, receipt_with}

-- what a pair becomes: its clause is renamed, and its number stays
abbrev pub pair_image : Renaming → Pair → Pair
pair_image m p = record { joint = p.joint; clause = image m p.clause }

-- what a candidate and its hints become
abbrev pub hinted_image : Renaming → Pair × List Pair → Pair × List Pair
hinted_image m g = (pair_image m g.0, map (pair_image m) g.1)

-- what a case becomes
abbrev pub case_image : Renaming → CaseValue → CaseValue
case_image m c = case_of c.seat c.own (lemma_image m c.lemma) (map (pair_image m) c.hints)
    (map (hinted_image m) c.groups)

-- the case with the clauses of its hints renamed; its lemma stays
abbrev pub hints_image : Renaming → CaseValue → CaseValue
hints_image m c = case_of c.seat c.own c.lemma
    (map (pair_image m) c.hints) (map (hinted_image m) c.groups)

-- what a receipt becomes
abbrev pub receipt_image : Renaming → ReceiptValue → ReceiptValue
receipt_image m r = receipt_with r.seat r.own (lemma_image m r.lemma) (map (pair_image m) r.listed)

-- The lemma of a case is named, and so are the clauses of its first list of hints.
pub record IsNamedCase (v : ℕ) (m : Renaming) (c : CaseValue) : Type 0 where
  pub lemma : is_named v m c.lemma.clause ≡ true
  pub hints : All (λ p. is_named v m p.clause ≡ true) c.hints

-- The lemma of a receipt is named, and so are the clauses that it lists.
pub record IsNamedReceipt (v : ℕ) (m : Renaming) (r : ReceiptValue) : Type 0 where
  pub lemma : is_named v m r.lemma.clause ≡ true
  pub listed : All (λ p. is_named v m p.clause ≡ true) r.listed
