-- Receipts: a lemma, and the hints that close the propagation of its negation.
use Rattle.std.specs.Prelude.{◌≡◌, ℕ, List, take}
use Rattle.lj_clause.specs.LiteralSet.{negations}
use Rattle.lj_clause.specs.Lemma.{LemmaValue}
use Rattle.lj_clause.specs.Propagation.{Closed, propagate_over}
use Rattle.lj_hint.specs.declared.pair.Pair.{Pair}
use Rattle.lj_hint.specs.Hints.{named_hints, numbers}
use Rattle.lj_hint.specs.Case.{CaseValue}

-- A seat, the own number and the lemma of its addition, and the hints that its propagation read.
pub record ReceiptValue : Type 0 where
  pub seat : ℕ
  pub own : ℕ
  pub lemma : LemmaValue
  pub listed : List Pair

-- the propagation of the lemma's negation over the listed hints is closed, and reads each of them
abbrev pub IsReceipt : ReceiptValue → Type 0
IsReceipt r = propagate_over (negations r.lemma.clause) (named_hints r.listed)
    ≡ Closed (numbers r.listed)

-- the receipt of these parts
abbrev pub receipt_with : ℕ → ℕ → LemmaValue → List Pair → ReceiptValue
receipt_with seat own lemma listed = record
    { seat = seat; own = own; lemma = lemma; listed = listed }

-- the receipt of a case whose propagation read so many hints
abbrev pub receipt_of : CaseValue → ℕ → ReceiptValue
receipt_of c read = receipt_with c.seat c.own c.lemma (take read c.hints)
