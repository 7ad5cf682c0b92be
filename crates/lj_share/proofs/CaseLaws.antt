-- What the test of a case tells of its addition.
use Rattle.std.proofs.Common.{◌≡◌, ap, refl, sym, ◌∙◌, ℕ, zero, suc}
use Rattle.std.specs.Prelude.{List, [], ◌∷◌, length, map, take, Ok}
use Rattle.lj_clause.specs.LiteralSet.{negations}
use Rattle.lj_clause.specs.Propagation as propagations
use Rattle.lj_clause.proofs.PropagationLaws.{used-numbers}
use Rattle.lj_text.specs.declared.line.Addition.{Addition}
use Rattle.lj_hint.specs.declared.pair.Pair.{Pair}
use Rattle.lj_hint.specs.declared.tested.Tested.TheVariants as tests
use Rattle.lj_hint.specs.Hints.{named_hints}
use Rattle.lj_hint.specs.Case.{CaseValue, propagation_of}
use Rattle.lj_hint.specs.Receipt.{ReceiptValue, receipt_of}
use Rattle.lj_hint.specs.Tested.{tested_of}
use Rattle.lj_book.specs.declared.refusal.Refusal.{Refusal}
use Rattle.lj_book.specs.declared.refusal.Refusal.TheVariants.{SeatGone, NumberTaken, UnknownNumber, GroupRepeated, HintNotUnit, EmptyOpen, MissingGroup, GroupStuck, GroupOpen, PrivateVariable, NoSuchClause, Stale, Full, NoVariableLeft, NoMemory}
use Rattle.lj_book.specs.Calls.{IsRefusal}
use Rattle.lj_book.specs.Solo.{View, solo_take}
use Rattle.lj_book.specs.Views.{IsClosedAlone, decided_by, decided_refusal}
use Rattle.lj_share.specs.Refusals.{IsDecided}

-- the refusal of a take is decided
pub take_decided : (v : View) (seat : ℕ) (a : Addition) (told : Refusal) → IsRefusal told (solo_take v seat a) → IsDecided (decided_refusal v seat a) told
take_decided v seat a SeatGone is = ap decided_by is
take_decided v seat a NumberTaken is = ap decided_by is
take_decided v seat a (UnknownNumber n) is = ap decided_by is
take_decided v seat a (GroupRepeated n) is = ap decided_by is
take_decided v seat a (HintNotUnit position) is = ap decided_by is
take_decided v seat a EmptyOpen is = ap decided_by is
take_decided v seat a (MissingGroup n) is = ap decided_by is
take_decided v seat a (GroupStuck n position) is = ap decided_by is
take_decided v seat a (GroupOpen n) is = ap decided_by is
take_decided v seat a PrivateVariable is = ap decided_by is
take_decided v seat a NoSuchClause is = ap decided_by is
take_decided v seat a (Stale n) is = ap decided_by is
take_decided v seat a Full is = ap decided_by is
take_decided v seat a NoVariableLeft is = ap decided_by is
take_decided v seat a (NoMemory m) is = tt

-- as many hints are listed as the propagation read
named : (n : ℕ) (ps : List Pair) → length (map (λ (h : propagations.Hint). h.number) (take n (named_hints ps))) ≡ length (take n ps)
named zero [] = refl
named zero (p ∷ ps) = refl
named (suc n) [] = refl
named (suc n) (p ∷ ps) = ap suc (named n ps)

read_are : (c : CaseValue) (used : List ℕ) → propagation_of c ≡ propagations.Closed used → length (take (length used) c.hints) ≡ length used
read_are c used is = sym (named (length used) c.hints) ∙ ap length (used-numbers (negations c.lemma.clause) (named_hints c.hints) used is)

pub closed_case : (v : View) (seat : ℕ) (a : Addition) (c : CaseValue) (receipt : ReceiptValue) → solo_take v seat a ≡ Ok c → tests.Closed receipt ≡ tested_of c (propagation_of c) → IsClosedAlone v seat a (length receipt.listed)
closed_case v seat a c receipt taken is = go (propagation_of c) refl is
  where
    go : (w : propagations.Propagation) → propagation_of c ≡ w → tests.Closed receipt ≡ tested_of c w → IsClosedAlone v seat a (length receipt.listed)
    go (propagations.Closed used) at same =
        let one : receipt ≡ receipt_of c (length used) = cc in
        record { case = c; used = used; taken = taken; closed = at; read_is = sym (ap (λ (r : ReceiptValue). length r.listed) one ∙ read_are c used at) }
    go (propagations.Open lits) at same = absurd cc
    go (propagations.Stuck position) at same = absurd cc
